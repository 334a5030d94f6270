-- The events of a list of calls are a history.
use Rattle.std.proofs.Common.{◌≡◌, ℕ, ◌<◌, List, [], ◌∷◌, ◌++◌, replicate, Some, None, Option, sym, refl, ap, subst}
use Rattle.std.specs.Option.{option_map}
use Rattle.dynamic_storage.specs.declared.condition.Condition.{Condition}
use Rattle.connection_words.specs.declared.settings.Settings.{Settings}
use Rattle.connection_words.specs.Settings.{channels}
use Rattle.connection_ports.specs.declared.port.Port.{Port}
use Rattle.channel_laws.specs.Calls.{State, state_of}
use Rattle.blocking_send.specs.declared.waiting.Waiting.{Waiting}
use Rattle.blocking_send.specs.Waits.{Pending, elapsed}
use Rattle.history.specs.Events.{Event, Answered, Runs}
use Rattle.history.specs.Guarantee.{Kept}
use Rattle.history.proofs.Theorem.{holds}
use Rattle.history_run.specs.declared.call.Call.{Call}
use Rattle.history_run.specs.declared.call.Call.TheVariants as call
use Rattle.history_run.specs.declared.answer.Answer.{Answer}
use Rattle.history_run.specs.Course.{end_of, Course}
use Rattle.history_run.specs.Made.{Acts, Held, held, views, slot_of, steps, event_of, leaves_if, next, told, listed, events}
use Rattle.history_run.specs.Ran.{opened, start, Opened, Ran}

AnsweredIf : State → Option Event → Type 0
AnsweredIf t None = Unit {0}
AnsweredIf t (Some e) = Answered t e

runs_if : (t z : State) (o : Option Event) (es : List Event) → AnsweredIf t o → Runs (leaves_if t o) es z → Runs t (listed o ++ es) z
unfolding AnsweredIf
runs_if t z None es a r = r
runs_if t z (Some e) es a r = (a, r)

module _ {P : Type 0} (acts : Acts P) where
  steps_agree : (t : State) (policy : P) (o : Option Pending) → AnsweredIf t (option_map (λ w. steps t (acts policy w.retries (elapsed w)) w) o)
  unfolding AnsweredIf
  steps_agree t policy None = tt
  steps_agree t policy (Some w) = refl

  agrees : (h : Held) (x : Call P) → AnsweredIf h.connection (event_of acts h x)
  unfolding AnsweredIf
  agrees h (call.Send v size c) = refl
  agrees h (call.Receive c) = refl
  agrees h (call.Release v c) = refl
  agrees h (call.Reclaim c) = refl
  agrees h (call.HasData c) = refl
  agrees h (call.BorrowCount c) = refl
  agrees h (call.Begin id v size c strategy budget) = tt
  agrees h (call.Step id policy) = steps_agree h.connection policy (slot_of h.slots id)

  events_run : (h : Held) (xs : List (Call P)) → Runs h.connection (events acts h xs) (end_of (next acts) h xs).connection
  events_run h [] = refl
  events_run h (x ∷ xs) =
      runs_if h.connection (end_of (next acts) (next acts h x) xs).connection (event_of acts h x) (events acts (next acts h x) xs) (agrees h x)
      (events_run (next acts h x) xs)

  module _ (first : Port) (s : Settings) (state : ℕ) (condition : Condition) (words : List ℕ) (created : Opened first s state condition words) where
    ran : (xs : List (Call P)) (answers : List Answer) (end : Held)
        → Course (next acts) (told acts) (start first s state condition words) xs answers end → Ran acts first s state condition words xs answers end
    ran xs answers end course =
        let t : State = opened first s state condition words in
        let runs : Runs t (events acts (start first s state condition words) xs) end.connection =
        rw course.ends (events_run (start first s state condition words) xs) in
        record {
          created = created;
          runs = runs;
          ends = course.ends;
          answered = course.answered;
          guaranteed = λ es fs e c low names.
              subst (λ (found : Settings). (y : State) × Runs t es y × Runs y fs end.connection × Kept found c es y) created.asked
              (holds t end.connection es fs c created.fresh (rw e runs) (subst (λ (found : Settings). c < channels found) (sym created.asked) low) names);
        }

    start_is : (k : Condition) (left counts : List ℕ) (waits : List (Option Waiting))
        → counts ≡ replicate 64 0 → waits ≡ replicate 64 None → state_of k left (replicate 64 0) ≡ opened first s state condition words
        → held (state_of k left counts) (views waits) ≡ start first s state condition words
    start_is k left counts waits e f g = rw (e, f) (ap (λ (t : State). held t (replicate 64 None)) g)

    -- the calls began at what the ports and the slots were
    pub ran_from : (k : Condition) (left counts : List ℕ) (waits : List (Option Waiting)) (xs : List (Call P)) (answers : List Answer)
        (end : State) (last kept : List (Option Waiting))
        → counts ≡ replicate 64 0 → waits ≡ replicate 64 None → state_of k left (replicate 64 0) ≡ opened first s state condition words → kept ≡ last
        → Course (next acts) (told acts) (held (state_of k left counts) (views waits)) xs answers (held end (views last))
        → Ran acts first s state condition words xs answers (held end (views kept))
    ran_from k left counts waits xs answers end last kept e f g same course =
        rw same
        (ran xs answers (held end (views last))
        (subst (λ (h : Held). Course (next acts) (told acts) h xs answers (held end (views last))) (start_is k left counts waits e f g) course))
