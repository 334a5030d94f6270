-- Every event keeps the invariant of every channel, and so does every history.
use Rattle.std.proofs.Common.{◌≡◌, ℕ, ◌+◌, ◌<◌, ◌≤◌, ltb, ◌≢◌, List, [], ◌∷◌, sym, refl, subst, ⊎_elim, arith}
use Rattle.std.proofs.lemmas.Bool.{cases_eq, cond_both}
use Rattle.connection_words.specs.declared.settings.Settings.{Settings}
use Rattle.connection_words.specs.Settings.{channels}
use Rattle.connection_words.specs.Places.{submission_of}
use Rattle.connection_words.specs.Queues.{count}
use Rattle.zero_copy_connection.specs.Answers.{Answer, flag, number}
use Rattle.zero_copy_connection.specs.Checks.{channel_refusal}
use Rattle.zero_copy_connection.specs.Sending.{send_refusal}
use Rattle.zero_copy_connection.specs.Receiving.{borrow_count, receive_refusal, release_refusal}
use Rattle.blocking_send.specs.declared.action.BackpressureToReceiverAction.{BackpressureToReceiverAction}
use Rattle.blocking_send.specs.Waits as way
use Rattle.blocking_send.specs.Waits.{Pending, Way, Outcome, goes, ends, outcome_by, words_by, step_way}
use Rattle.channel_laws.specs.Calls.{State, state_of, Call, sends, receives, releases, reclaims, asks_data, asks_count, channel_of, answered, after}
use Rattle.channel_laws.proofs.Refusals.{plain_channel, plain_send}
use Rattle.history.specs.Events.{Event, made, stepped, Answered, leaves, Runs}
use Rattle.history.specs.Books.{Books, is_refused, is_nothing, booked_on, send_of, booked, follow, IfOn, Along, since_by}
use Rattle.history.specs.Guarantee.{NamesLoan, EvictsOldest, Paced, Unrefused, Uncorrupted}
use Rattle.history.proofs.Moves.{booked_own, booked_other, booked_refusal, data_moves, count_moves}
use Rattle.history.proofs.Good.{Good, Step, st, frame}
use Rattle.history.proofs.Plain.{plain_receive, plain_release, clean_refused, clean_flag, clean_number, clean_unless}
use Rattle.history.proofs.Ways.{Plainly, step_plainly}
use Rattle.history.proofs.Receives.{receive_step, release_step}
use Rattle.history.proofs.Reclaims.{reclaim_step}
use Rattle.history.proofs.Sends.{send_step}

-- a call on the channel
step : (t : State) (b : Books) (c : ℕ) → Good (st t) c t b → c < channels (st t) → (x : Call) → channel_of x ≡ c → NamesLoan b x (answered t x) → Step (st t) c b x (answered t x) (after t x)
step t b c g l (sends v n d) e k =
    rw e (send_step t b c g l v n (send_refusal t.condition t.words c v n) refl (plain_send t.condition t.words c v n))
step t b c g l (receives d) e k =
    rw e (receive_step t b c g l (receive_refusal t.condition t.words t.counts c) refl (plain_receive t c))
step t b c g l (releases v d) e k =
    rw e (release_step t b c g l v k (release_refusal t.condition t.words t.counts c) refl (plain_release t c))
step t b c g l (reclaims d) e k =
    rw e (reclaim_step t b c g l (channel_refusal t.condition t.words c) (plain_channel t.condition t.words c))
step t b c g l (asks_data d) e k =
    record {
      good = rw (data_moves d (answered t (asks_data d)) b) g;
      oldest = tt;
      unrefused = λ _. tt;
      clean = clean_unless (channel_refusal t.condition t.words d) (flag (ltb 0 (count t.words (submission_of (st t) d)))) (plain_channel t.condition t.words d) (clean_flag _);
    }
step t b c g l (asks_count d) e k =
    record {
      good = rw (count_moves d (answered t (asks_count d)) b) g;
      oldest = tt;
      unrefused = λ _. tt;
      clean = clean_unless (channel_refusal t.condition t.words d) (number (borrow_count t.counts d)) (plain_channel t.condition t.words d) (clean_number _);
    }

-- what an event keeps and shows
record Passed (s : Settings) (c : ℕ) (b : Books) (e : Event) (z : State) : Type 0 where
  pub good : Good s c z (booked c e b)
  pub oldest : IfOn c e (EvictsOldest b)
  pub unrefused : b.since ≤ 1 → IfOn c e (Unrefused b)
  pub clean : IfOn c e (Uncorrupted b)

event_at : (t : State) (b : Books) (c : ℕ) → Good (st t) c t b → c < channels (st t) → (x : Call) (a : Answer) → a ≡ answered t x → (channel_of x ≡ c → NamesLoan b x a) → Passed (st t) c b (made x a) (after t x)
event_at t b c g l x a h k =
    ⊎_elim
    (λ (q : channel_of x ≡ c).
    let one : Step (st t) c b x a (after t x) =
    subst (λ (y : Answer). Step (st t) c b x y (after t x)) (sym h) (step t b c g l x q (subst (λ (y : Answer). NamesLoan b x y) h (k q))) in
    record { good = rw (booked_own c x a b q) one.good; oldest = λ _. one.oldest; unrefused = λ few _. one.unrefused few; clean = λ _. one.clean })
    (λ (q : channel_of x ≢ c).
    record { good = rw (booked_other c x a b q) (frame t b c x l q g); oldest = λ e. absurd (q e); unrefused = λ few e. absurd (q e); clean = λ e. absurd (q e) })
    (cases_eq (channel_of x) c)

-- a step that ends by a send is that send, and every other leaves all as it was
step_by : (t : State) (b : Books) (c : ℕ) → Good (st t) c t b → c < channels (st t) → (w : Pending) (action : BackpressureToReceiverAction) (way : Way) → Plainly way
    → Passed (st t) c b (stepped w action (outcome_by way (answered t (send_of w)))) (state_of t.condition (words_by way t.words (after t (send_of w)).words) t.counts)
step_by t b c g l w action way.sends p =
    let one = event_at t b c g l (send_of w) (answered t (send_of w)) refl (λ _. tt) in
    record { good = one.good; oldest = one.oldest; unrefused = one.unrefused; clean = one.clean }
step_by t b c g l w action (way.refuses n) p =
    record { good = rw (booked_refusal c (send_of w) n b) g; oldest = λ _. tt; unrefused = λ _ _. tt; clean = λ _. clean_refused n p }
step_by t b c g l w action (way.waits next) p =
    record { good = g; oldest = tt; unrefused = λ _. tt; clean = tt }

event : (s : Settings) (t : State) (b : Books) (c : ℕ) → Good s c t b → c < channels s → (e : Event) → Answered t e → IfOn c e (NamesLoan b) → Passed s c b e (leaves t e)
event s t b c g l (made x a) h k =
    subst (λ (s : Settings). Good s c t b → c < channels s → Passed s c b (made x a) (after t x)) g.is (λ g' l'. event_at t b c g' l' x a h k) g l
event s t b c g l (stepped w action o) h k =
    subst (λ (s : Settings). Good s c t b → c < channels s → Passed s c b (stepped w action o) (leaves t (stepped w action o))) g.is
    (λ g' l'. subst (λ (y : Outcome). Passed (st t) c b (stepped w action y) (leaves t (stepped w action y))) (sym h)
    (step_by t b c g' l' w action (step_way t.condition t.words w action) (step_plainly t.condition t.words w action))) g l

-- the pace is kept: at most one send was accepted since a reclaim answered nothing
paced_by : (b : Books) (x : Call) (a : Answer) → b.since ≤ 1 → Paced b x a → since_by x a b.since ≤ 1
paced_by b (sends v n d) a h p = cond_both (is_refused a) b.since (b.since + 1) (λ m. m ≤ 1) (λ q. h) (λ q. omega (arith, p q))
paced_by b (receives d) a h p = h
paced_by b (releases v d) a h p = h
paced_by b (reclaims d) a h p = cond_both (is_nothing a) 0 b.since (λ m. m ≤ 1) (λ q. omega arith) (λ q. h)
paced_by b (asks_data d) a h p = h
paced_by b (asks_count d) a h p = h

paced_on : (c : ℕ) (b : Books) (x : Call) (a : Answer) → b.since ≤ 1 → (channel_of x ≡ c → Paced b x a) → (booked_on c x a b).since ≤ 1
paced_on c b x a h p =
    ⊎_elim
    (λ (q : channel_of x ≡ c). rw (booked_own c x a b q) (paced_by b x a h (p q)))
    (λ (q : channel_of x ≢ c). rw (booked_other c x a b q) h)
    (cases_eq (channel_of x) c)

paced : (c : ℕ) (b : Books) (e : Event) → b.since ≤ 1 → IfOn c e (Paced b) → (booked c e b).since ≤ 1
paced c b (made x a) h p = paced_on c b x a h p
paced c b (stepped w action (goes next)) h p = h
paced c b (stepped w action (ends a)) h p = paced_on c b (send_of w) a h p

-- what a history keeps and shows
pub record Course (s : Settings) (c : ℕ) (b : Books) (es : List Event) (z : State) : Type 0 where
  pub good : Good s c z (follow c b es)
  pub oldest : Along EvictsOldest c b es
  pub unrefused : b.since ≤ 1 → Along Paced c b es → Along Unrefused c b es
  pub clean : Along Uncorrupted c b es

pub run : (es : List Event) (s : Settings) (c : ℕ) (t z : State) (b : Books) → Good s c t b → c < channels s → Runs t es z → Along NamesLoan c b es → Course s c b es z
run [] s c t z b g l r k =
    record { good = subst (λ (y : State). Good s c y b) r g; oldest = tt; unrefused = λ _ _. tt; clean = tt }
run (e ∷ es) s c t z b g l r k =
    let one = event s t b c g l e r.0 k.0 in
    let rest = run es s c (leaves t e) z (booked c e b) one.good l r.1 k.1 in
    record {
      good = rest.good;
      oldest = (one.oldest, rest.oldest);
      unrefused = λ few p. (one.unrefused few, rest.unrefused (paced c b e few p.0) p.1);
      clean = (one.clean, rest.clean);
    }
