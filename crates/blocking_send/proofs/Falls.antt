-- A step after which a send is still pending takes one of its budget.
use Rattle.std.proofs.Common.{◌≡◌, ℕ, ◌+◌, List, [], ◌∷◌, length, refl, ◌∙◌, arith}
use Rattle.dynamic_storage.specs.declared.condition.Condition.{Condition}
use Rattle.zero_copy_connection.specs.Answers.{Answer}
use Rattle.zero_copy_connection.specs.Sending.{send_answer}
use Rattle.blocking_send.specs.declared.action.BackpressureToReceiverAction.{BackpressureToReceiverAction}
use Rattle.blocking_send.specs.Laws.{Met, StillPending, Kept, WaitsEnd}
use Rattle.blocking_send.specs.Waits.{Pending, Way, sends, refuses, waits, goes, outcome_by, step_way, step_outcome}
use Rattle.blocking_send.proofs.Ways.{every_way}

abbrev Falls : Pending → Way → Type 0
Falls w sends = Unit {0}
Falls w (refuses n) = Unit {0}
Falls w (waits next) = (1 + next.budget ≡ w.budget) × Kept 1 w next

goes_falls : (w next : Pending) (way : Way) (sent : Answer) → outcome_by way sent ≡ goes next → Falls w way → (1 + next.budget ≡ w.budget) × Kept 1 w next
goes_falls w next sends sent e f = let z : ◌≡◌ {A = ℕ} 0 1 = cc in absurd (omega arith)
goes_falls w next (refuses n) sent e f = let z : ◌≡◌ {A = ℕ} 0 1 = cc in absurd (omega arith)
goes_falls w next (waits other) sent e f = let same : next ≡ other = cc in rw same f

-- one step
pub step_falls : (condition : Condition) (words : List ℕ) (w next : Pending) (a : BackpressureToReceiverAction)
    → step_outcome condition words w a ≡ goes next → (1 + next.budget ≡ w.budget) × Kept 1 w next
step_falls condition words w next a e =
    goes_falls w next (step_way condition words w a) (send_answer condition words w.channel w.value w.size) e
    (every_way (Falls w) w tt (λ n f. tt) (λ retries until f. (omega arith, (refl, refl, refl, refl, refl))) condition words a)

spent : (met : List Met) (w last : Pending) → StillPending met w last → length met + last.budget ≡ w.budget
spent [] w last e = rw e (omega arith)
spent (m ∷ met) w last (next, e, more) =
    let first = (step_falls m.condition m.words w next m.action e).0 in
    let rest = spent met next last more in
    omega arith

kept : (met : List Met) (w last : Pending) → StillPending met w last → Kept (length met) w last
kept [] w last e = rw e (refl, refl, refl, refl, omega arith)
kept (m ∷ met) w last (next, e, more) =
    let first = (step_falls m.condition m.words w next m.action e).1 in
    let rest = kept met next last more in
    (rest.0 ∙ first.0, rest.1 ∙ first.1, rest.2 ∙ first.2, rest.3 ∙ first.3, omega (arith, rest.4, first.4))

pub waits_end : WaitsEnd
waits_end = record { spent = spent; kept = kept }
