-- Slots of pending sends: one is taken out, put in, and stepped.
use Rattle.std.proofs.Common.{◌≡◌, ℕ, ◌<◌, ◌≤◌, List, length, get_or, set, Some, None, Option, sym, refl, ap, ◌∙◌}
use Rattle.std.specs.Option.{option_map}
use Rattle.std.proofs.lemmas.List.{map-set, get_or-map, length-map, set_past, get_or_past, set-get_or, set-set}
use Rattle.dynamic_storage.specs.declared.condition.Condition.{Condition}
use Rattle.zero_copy_connection.specs.Answers as calls
use Rattle.channel_laws.specs.Calls.{state_of}
use Rattle.blocking_send.specs.declared.waiting.Waiting.{Waiting}
use Rattle.blocking_send.specs.Seen.{view_of}
use Rattle.blocking_send.specs.Waits.{Pending, elapsed, goes, ends, step_outcome, step_words}
use Rattle.history_run.specs.declared.call.Call.TheVariants as call
use Rattle.history_run.specs.Made.{Acts, held, views, slot_of, next}

-- a slot is written, and read
pub put_is : (waits : List (Option Waiting)) (i : ℕ) (x y : Option Waiting) → x ≡ y → views (set waits i x) ≡ set (views waits) i (option_map view_of y)
put_is waits i x y e = map-set (option_map view_of) waits i x ∙ ap (λ (z : Option Waiting). set (views waits) i (option_map view_of z)) e

pub taken_is : (waits : List (Option Waiting)) (i : ℕ) (d r : Option Waiting) → i < length waits → r ≡ get_or waits i d → option_map view_of r ≡ slot_of (views waits) i
taken_is waits i d r l e = ap (option_map view_of) e ∙ sym (get_or-map (option_map view_of) waits i d None l)

-- there is no such slot
past_long : (waits : List (Option Waiting)) (i : ℕ) → length waits ≤ i → length (views waits) ≤ i
past_long waits i l = rw (length-map waits (option_map view_of)) l

pub put_past : (waits : List (Option Waiting)) (i : ℕ) (v : Option Pending) → length waits ≤ i → views waits ≡ set (views waits) i v
put_past waits i v l = sym (set_past (views waits) i v (past_long waits i l))

pub taken_past : (waits : List (Option Waiting)) (i : ℕ) → length waits ≤ i → None ≡ slot_of (views waits) i
taken_past waits i l = sym (get_or_past (views waits) i None (past_long waits i l))

module _ {P : Type 0} (acts : Acts P) (policy : P) (k : Condition) (words counts : List ℕ) (slots taken : List (Option Pending)) (i : ℕ)
    (out : taken ≡ set slots i None) where
  pub none_stays : None ≡ slot_of slots i → held (state_of k words counts) taken ≡ next acts (held (state_of k words counts) slots) (call.Step i policy)
  none_stays e = rw (← e) (ap (held (state_of k words counts)) (out ∙ (ap (set slots i) e ∙ set-get_or slots i None)))

  module _ (w : Pending) (last : Condition) (left : List ℕ) (there : Some w ≡ slot_of slots i)
      (same : last ≡ k) (after : left ≡ step_words k words w (acts policy w.retries (elapsed w))) where
    pub goes_on : (w' : Pending) (put : List (Option Pending)) → put ≡ set taken i (Some w') → goes w' ≡ step_outcome k words w (acts policy w.retries (elapsed w))
        → held (state_of last left counts) put ≡ next acts (held (state_of k words counts) slots) (call.Step i policy)
    goes_on w' put e o = rw (← there, ← o, same, after, e, out) (ap (held _) (set-set slots i None (Some w')))

    pub has_ended : (a : calls.Answer) → ends a ≡ step_outcome k words w (acts policy w.retries (elapsed w))
        → held (state_of last left counts) taken ≡ next acts (held (state_of k words counts) slots) (call.Step i policy)
    has_ended a o = rw (← there, ← o, same, after, out) refl
