-- A receive and a release keep the invariant of their channel.
use Rattle.std.proofs.Common.{◌≡◌, ℕ, ◌+◌, ◌-◌, ◌<◌, ◌≤◌, Bool, true, false, cond, leb, List, [], ◌∷◌, length, set, Some, None, Option, sym, refl, ap, ◌∙◌, arith}
use Rattle.std.proofs.lemmas.Bool.{leb-false, eq-eqb, ne_eqb, lt-leb}
use Rattle.std.proofs.lemmas.List.{length-set, get_or-set_same, length_push}
use Rattle.connection_words.specs.Settings.{borrowed, channels, completions}
use Rattle.connection_words.specs.Places.{submission_of, completion_of}
use Rattle.connection_words.specs.Queues.{count, entry, pushed, popped}
use Rattle.zero_copy_connection.specs.Answers.{nothing, value, unless, answer_unless}
use Rattle.zero_copy_connection.specs.Checks.{channel_refusal}
use Rattle.zero_copy_connection.specs.Receiving.{borrow_count, is_empty, receive_refusal, release_refusal}
use Rattle.channel_laws.specs.Calls.{State, state_of, receives, releases}
use Rattle.channel_laws.proofs.Regions.{only_none, only_pop_sub, only_push_comp}
use Rattle.channel_laws.proofs.Views.{view_as, pop_sub, push_comp}
use Rattle.channel_laws.proofs.Sounds.{cond_none, or_else_none}
use Rattle.history.specs.Books.{Books, has}
use Rattle.history.proofs.Moves.{lends, gives_back, receive_lends, nothing_received, release_returns, refusal_moves}
use Rattle.history.proofs.Ledger.{total, waits_left, total_receives, ledger_receives, total_releases, ledger_releases, length_without}
use Rattle.history.proofs.Good.{Good, Step, st, own}
use Rattle.channel_laws.proofs.Refusals.{Plain}
use Rattle.history.proofs.Plain.{clean_refused, clean_nothing, clean_value}
use Rattle.history.proofs.Known.{lim, long, waiting_count, returned_count, low, channel_open, waiting_first}

module _ (t : State) (b : Books) (c : ℕ) (g : Good (st t) c t b) (l : c < channels (st t)) where
  received_some : (x : ℕ) (w : List ℕ) → b.waiting ≡ x ∷ w → length b.on_loan < borrowed (st t) → Good (st t) c (state_of t.condition (popped t.words (submission_of (st t) c)) (set t.counts c (borrow_count t.counts c + 1))) (lends x b)
  received_some x w is k =
      let limits = lim t b c g in
      let now : List ℕ = popped t.words (submission_of (st t) c) in
      own (st t) c t b (lends x b) now (set t.counts c (borrow_count t.counts c + 1)) l g
      (only_pop_sub (st t) c t.words t.words (only_none (st t) c t.words) limits l)
      (length-set t.counts c (borrow_count t.counts c + 1) ∙ g.many)
      (get_or-set_same t.counts c (borrow_count t.counts c + 1) 0 (omega (arith, low t b c g l, g.many)) ∙ omega (arith, g.counter, length_push b.on_loan x))
      (view_as (st t) c now w (lends x b).waiting b.returned b.returned b.size b.size (total b) (total (lends x b))
      (sym (waits_left (st t) b x w g.ledger is))
      refl
      (λ _ _. refl)
      (λ h i _ _. total_receives (st t) b x w g.ledger is h i)
      (pop_sub (st t) c limits l t.words (long t b c g) w b.returned b.size (total b) x
      (view_as (st t) c t.words b.waiting (x ∷ w) b.returned b.returned b.size b.size (total b) (total b) is refl (λ _ _. refl) (λ _ _ _ _. refl) g.view)))
      (ledger_receives (st t) b x w g.ledger is k)

  -- what a receive that is not refused leaves and answers, by whether the queue is empty and by its oldest entry
  abbrev Received : Bool → ℕ → Type 0
  Received e v =
      Step (st t) c b (receives c) (cond e nothing (value v))
      (state_of t.condition (cond e t.words (popped t.words (submission_of (st t) c))) (cond e t.counts (set t.counts c (borrow_count t.counts c + 1))))

  received_by_lem : (w : List ℕ) → b.waiting ≡ w → length b.on_loan < borrowed (st t) → Received (is_empty t.words (st t) c) (entry t.words (submission_of (st t) c) 0)
  received_by_lem [] is k =
      let e : is_empty t.words (st t) c ≡ true = eq-eqb _ 0 (waiting_count t b c g ∙ ap length is) in
      rw e (record { good = rw (nothing_received b c) g; oldest = tt; unrefused = λ _. tt; clean = clean_nothing })
  received_by_lem (x ∷ w) is k =
      let e : is_empty t.words (st t) c ≡ false = ne_eqb _ 0 (λ z. let y : length b.waiting ≡ length (x ∷ w) = ap length is in omega (arith, waiting_count t b c g)) in
      let f : entry t.words (submission_of (st t) c) 0 ≡ x = waiting_first t b c g l x w is in
      rw (e, f) (record { good = rw (receive_lends b c x) (received_some x w is k); oldest = tt; unrefused = λ _. tt; clean = clean_value x })

  pub receive_step : (o : Option ℕ) → receive_refusal t.condition t.words t.counts c ≡ o → Plain o → Step (st t) c b (receives c) (answer_unless o (cond (is_empty t.words (st t) c) nothing (value (entry t.words (submission_of (st t) c) 0)))) (state_of t.condition (unless o t.words (cond (is_empty t.words (st t) c) t.words (popped t.words (submission_of (st t) c)))) (unless o t.counts (cond (is_empty t.words (st t) c) t.counts (set t.counts c (borrow_count t.counts c + 1)))))
  receive_step (Some n) h p = record { good = rw (refusal_moves (receives c) n b) g; oldest = tt; unrefused = λ _. tt; clean = clean_refused n p }
  receive_step None h p =
      let q = or_else_none (channel_refusal t.condition t.words c) _ h in
      let r = cond_none (leb (borrowed (st t)) (borrow_count t.counts c)) 40 None q.1 in
      received_by_lem b.waiting refl (omega (arith, leb-false _ _ r.0, g.counter))

  -- a release is not refused while the pace is kept
  pub release_open : (v : ℕ) → has v b.on_loan ≡ true → b.since ≤ 1 → release_refusal t.condition t.words t.counts c ≡ None
  release_open v h k =
      let some : length b.on_loan ≡ 1 + _ = length_without v b.on_loan h in
      rw
      (channel_open t b c g l, lt-leb (completions (st t)) (count t.words (completion_of (st t) c)) (omega (arith, returned_count t b c g, g.ledger.pace)), ne_eqb (borrow_count t.counts c) 0 (λ z. omega (arith, g.counter)))

  released_good : (v : ℕ) → has v b.on_loan ≡ true → length b.returned < completions (st t) → Good (st t) c (state_of t.condition (pushed t.words (completion_of (st t) c) v) (set t.counts c (borrow_count t.counts c - 1))) (gives_back v b)
  released_good v has-v k =
      let limits = lim t b c g in
      let now : List ℕ = pushed t.words (completion_of (st t) c) v in
      own (st t) c t b (gives_back v b) now (set t.counts c (borrow_count t.counts c - 1)) l g
      (only_push_comp (st t) c t.words t.words (only_none (st t) c t.words) v limits l)
      (length-set t.counts c (borrow_count t.counts c - 1) ∙ g.many)
      (get_or-set_same t.counts c (borrow_count t.counts c - 1) 0 (omega (arith, low t b c g l, g.many)) ∙ omega (arith, g.counter, length_without v b.on_loan has-v))
      (view_as (st t) c now b.waiting b.waiting (gives_back v b).returned (gives_back v b).returned b.size b.size (total b) (total (gives_back v b))
      refl
      refl
      (λ _ _. refl)
      (λ h i _ _. total_releases (st t) b v g.ledger has-v h i)
      (push_comp (st t) c limits l t.words (long t b c g) b.waiting b.returned b.size (total b) v k g.view))
      (ledger_releases (st t) b v g.ledger has-v)

  pub release_step : (v : ℕ) → has v b.on_loan ≡ true → (o : Option ℕ) → release_refusal t.condition t.words t.counts c ≡ o → Plain o → Step (st t) c b (releases v c) (answer_unless o nothing) (state_of t.condition (unless o t.words (pushed t.words (completion_of (st t) c) v)) (unless o t.counts (set t.counts c (borrow_count t.counts c - 1))))
  release_step v has-v (Some n) h p =
      record {
        good = rw (refusal_moves (releases v c) n b) g;
        oldest = tt;
        unrefused = λ few. let none : release_refusal t.condition t.words t.counts c ≡ None = release_open v has-v few in cc;
        clean = clean_refused n p;
      }
  release_step v has-v None h p =
      let q = or_else_none (channel_refusal t.condition t.words c) _ h in
      let r = cond_none (leb (completions (st t)) (count t.words (completion_of (st t) c))) 41 _ q.1 in
      let k : length b.returned < completions (st t) = omega (arith, leb-false _ _ r.0, returned_count t b c g) in
      record { good = rw (release_returns b c v) (released_good v has-v k); oldest = tt; unrefused = λ _. refl; clean = clean_nothing }
