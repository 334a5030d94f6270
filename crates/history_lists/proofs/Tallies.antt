-- The lists that the calls and answers say are those of the books.
use Rattle.std.proofs.Common.{◌≡◌, ◌⊎◌, inl, inr, ℕ, Bool, true, false, cond, eqb, List, [], ◌∷◌, ◌++◌, length, IfOk, Some, None, Ok, Err, Option, Result, sym, refl, ap, ◌∙◌, arith}
use Rattle.std.specs.Option.{option_map}
use Rattle.std.proofs.lemmas.List.{append-nil}
use Rattle.zero_copy_connection.specs.Answers as calls
use Rattle.channel_laws.specs.Calls.{State, answered, sends, receives, releases, reclaims, asks_data, asks_count}
use Rattle.blocking_send.specs.declared.action.BackpressureToReceiverAction.{BackpressureToReceiverAction}
use Rattle.blocking_send.specs.Waits.{Pending, Outcome, elapsed, goes, ends, step_outcome}
use Rattle.history.specs.Events.{Event, stepped}
use Rattle.history.specs.Books.{Books, unused, booked_by, booked_on, booked, follow, books}
use Rattle.history_run.specs.declared.call.Call.{Call}
use Rattle.history_run.specs.declared.call.Call.TheVariants as call
use Rattle.history_run.specs.declared.answer.Answer.{Answer}
use Rattle.history_run.specs.declared.answer.Answer.TheVariants as answer
use Rattle.history_lists.specs.declared.lists.Lists.{Lists}
use Rattle.history_run.specs.Course.{answers_of}
use Rattle.history_run.specs.Made.{Acts, Held, slot_of, steps, event_of, next, plain, sent, answer_of, answer_else, told, listed, events}
use Rattle.history_lists.specs.Lists.{Tally, value_in, granted, moves, tally_of, tally_in, empty, none, moved_by_send, moves_of, moved, moved_to, tallied}

-- no call or no answer is left
pub tallied_all : {P : Type 0} (c : ℕ) (xs : List (Call P)) (answers : List Answer) (t : Tally) → (length xs ≡ 0) ⊎ (length answers ≡ 0) → tallied c xs answers t ≡ t
tallied_all c [] answers t e = refl
tallied_all c (x ∷ xs) [] t e = refl
tallied_all c (x ∷ xs) (a ∷ answers) t (inl e) = absurd (omega arith)
tallied_all c (x ∷ xs) (a ∷ answers) t (inr e) = absurd (omega arith)

by_cond : (q : Bool) (x y : Books) → cond q (tally_of x) (tally_of y) ≡ tally_of (cond q x y)
by_cond true x y = refl
by_cond false x y = refl

-- what moves nothing
none_at : (q : Bool) (t : Tally) → cond q (moved_to none t) t ≡ t
none_at true t = rw (append-nil t.waiting, append-nil t.on_loan, append-nil t.returned) refl
none_at false t = refl

module _ (c : ℕ) (b : Books) where
  none_moved : moved c none (tally_of b) ≡ tally_of b
  none_moved = none_at (eqb 0 c) (tally_of b)

  -- books that say the same as moves which move nothing
  none_booked : (q : Bool) (after : Books) → tally_of after ≡ moved_to none (tally_of b) → moved c none (tally_of b) ≡ tally_of (cond q after b)
  none_booked q after e =
      none_moved ∙ (sym (none_at q (tally_of b)) ∙ (ap (λ (t : Tally). cond q t (tally_of b)) (sym e) ∙ by_cond q after b))

  by_send : (v size ch : ℕ) (a : calls.Answer) → moved c (moved_by_send (sent v ch a)) (tally_of b) ≡ tally_of (booked_on c (sends v size ch) a b)
  by_send v size ch (calls.refused n) = none_booked (eqb ch c) (booked_by (sends v size ch) (calls.refused n) b) refl
  by_send v size ch calls.nothing = by_cond (eqb ch c) (booked_by (sends v size ch) calls.nothing b) b
  by_send v size ch (calls.value old) = by_cond (eqb ch c) (booked_by (sends v size ch) (calls.value old) b) b
  by_send v size ch (calls.flag f) = by_cond (eqb ch c) (booked_by (sends v size ch) (calls.flag f) b) b
  by_send v size ch (calls.number n) = by_cond (eqb ch c) (booked_by (sends v size ch) (calls.number n) b) b

  by_receive : (ch : ℕ) (a : calls.Answer) → moved c (moves ch None None (value_in (plain a)) None None) (tally_of b) ≡ tally_of (booked_on c (receives ch) a b)
  by_receive ch (calls.refused n) = by_cond (eqb ch c) (booked_by (receives ch) (calls.refused n) b) b
  by_receive ch calls.nothing = by_cond (eqb ch c) (booked_by (receives ch) calls.nothing b) b
  by_receive ch (calls.value v) = by_cond (eqb ch c) (booked_by (receives ch) (calls.value v) b) b
  by_receive ch (calls.flag f) = by_cond (eqb ch c) (booked_by (receives ch) (calls.flag f) b) b
  by_receive ch (calls.number n) = by_cond (eqb ch c) (booked_by (receives ch) (calls.number n) b) b

  by_release : (v ch : ℕ) (a : calls.Answer) → moved c (moves ch None None None (granted (plain a) v) None) (tally_of b) ≡ tally_of (booked_on c (releases v ch) a b)
  by_release v ch (calls.refused n) = by_cond (eqb ch c) (booked_by (releases v ch) (calls.refused n) b) b
  by_release v ch calls.nothing = by_cond (eqb ch c) (booked_by (releases v ch) calls.nothing b) b
  by_release v ch (calls.value w) = by_cond (eqb ch c) (booked_by (releases v ch) (calls.value w) b) b
  by_release v ch (calls.flag f) = by_cond (eqb ch c) (booked_by (releases v ch) (calls.flag f) b) b
  by_release v ch (calls.number n) = by_cond (eqb ch c) (booked_by (releases v ch) (calls.number n) b) b

  by_reclaim : (ch : ℕ) (a : calls.Answer) → moved c (moves ch None None None None (value_in (plain a))) (tally_of b) ≡ tally_of (booked_on c (reclaims ch) a b)
  by_reclaim ch (calls.refused n) = by_cond (eqb ch c) (booked_by (reclaims ch) (calls.refused n) b) b
  by_reclaim ch calls.nothing = by_cond (eqb ch c) (booked_by (reclaims ch) calls.nothing b) b
  by_reclaim ch (calls.value v) = by_cond (eqb ch c) (booked_by (reclaims ch) (calls.value v) b) b
  by_reclaim ch (calls.flag f) = by_cond (eqb ch c) (booked_by (reclaims ch) (calls.flag f) b) b
  by_reclaim ch (calls.number n) = by_cond (eqb ch c) (booked_by (reclaims ch) (calls.number n) b) b

  by_step : (w : Pending) (action : BackpressureToReceiverAction) (o : Outcome)
      → moved c (moved_by_send (answer_of (stepped w action o))) (tally_of b) ≡ tally_of (booked c (stepped w action o) b)
  by_step w action (goes w') = none_moved
  by_step w action (ends a) = by_send w.value w.size w.channel a

  booked_if : Option Event → Books
  booked_if None = b
  booked_if (Some e) = booked c e b

  by_slot : (t : State) (acts : ℕ → ℕ → BackpressureToReceiverAction) (o : Option Pending)
      → moved c (moved_by_send (answer_else answer.NoWait (option_map (λ w. steps t (acts w.retries (elapsed w)) w) o))) (tally_of b)
      ≡ tally_of (booked_if (option_map (λ w. steps t (acts w.retries (elapsed w)) w) o))
  unfolding booked_if
  by_slot t acts None = none_moved
  by_slot t acts (Some w) = by_step w (acts w.retries (elapsed w)) (step_outcome t.condition t.words w (acts w.retries (elapsed w)))

  -- a call moves what its event, if it is one, is booked as
  by_call : {P : Type 0} (acts : Acts P) (h : Held) (x : Call P) → moved c (moves_of x (told acts h x)) (tally_of b) ≡ tally_of (booked_if (event_of acts h x))
  unfolding booked_if
  by_call acts h (call.Send v size ch) = by_send v.0 size ch (answered h.connection (sends v.0 size ch))
  by_call acts h (call.Receive ch) = by_receive ch (answered h.connection (receives ch))
  by_call acts h (call.Release v ch) = by_release v.0 ch (answered h.connection (releases v.0 ch))
  by_call acts h (call.Reclaim ch) = by_reclaim ch (answered h.connection (reclaims ch))
  by_call acts h (call.HasData ch) = none_booked (eqb ch c) (booked_by (asks_data ch) (answered h.connection (asks_data ch)) b) refl
  by_call acts h (call.BorrowCount ch) = none_booked (eqb ch c) (booked_by (asks_count ch) (answered h.connection (asks_count ch)) b) refl
  by_call acts h (call.Begin id v size ch strategy budget) = none_moved
  by_call acts h (call.Step id policy) = by_slot h.connection (acts policy) (slot_of h.slots id)

  follow_if : (o : Option Event) (es : List Event) → follow c b (listed o ++ es) ≡ follow c (booked_if o) es
  unfolding booked_if
  follow_if None es = refl
  follow_if (Some e) es = refl

pub tallies : {P : Type 0} (acts : Acts P) (c : ℕ) (b : Books) (h : Held) (xs : List (Call P))
    → tallied c xs (answers_of (next acts) (told acts) h xs) (tally_of b) ≡ tally_of (follow c b (events acts h xs))
tallies acts c b h [] = refl
tallies acts c b h (x ∷ xs) =
    ap (tallied c xs (answers_of (next acts) (told acts) (next acts h x) xs)) (by_call c b acts h x)
    ∙ (tallies acts c (booked_if c b (event_of acts h x)) (next acts h x) xs
    ∙ ap tally_of (sym (follow_if c b (event_of acts h x) (events acts (next acts h x) xs))))

-- what was tallied is what the books say, for all histories with these calls and answers
pub listed_as_books : {P E : Type 0} (c : ℕ) (xs : List (Call P)) (answers : List Answer) (r : Result Lists E)
    → IfOk r (λ lists. tally_in lists ≡ tallied c xs answers empty)
    → IfOk r
    (λ lists. (acts : Acts P) (h : Held) → answers ≡ answers_of (next acts) (told acts) h xs → tally_in lists ≡ tally_of (books c (events acts h xs)))
listed_as_books c xs answers (Err e) f = tt
listed_as_books c xs answers (Ok lists) f = λ acts h e.
    f ∙ (ap (λ (as-told : List Answer). tallied c xs as-told empty) e ∙ tallies acts c unused h xs)
