-- A history: calls with their answers and steps of pending sends with their outcomes, in order.
use Rattle.std.specs.Prelude.{◌≡◌, List, [], ◌∷◌}
use Rattle.zero_copy_connection.specs.Answers.{Answer}
use Rattle.blocking_send.specs.declared.action.BackpressureToReceiverAction.{BackpressureToReceiverAction}
use Rattle.blocking_send.specs.Waits.{Pending, Outcome, step_outcome, step_words}
use Rattle.channel_laws.specs.Calls.{State, state_of, Call, answered, after}

pub data Event : Type 0 where
  -- a call with what it answered
  made : Call → Answer → Event
  -- a step of a pending send with the action that its policy answers, asked or not, and what the step came to
  stepped : Pending → BackpressureToReceiverAction → Outcome → Event

-- what an event answers is what the state before it gives
abbrev pub Answered : State → Event → Type 0
Answered t (made x a) = a ≡ answered t x
Answered t (stepped w action o) = o ≡ step_outcome t.condition t.words w action

-- the state that an event leaves
abbrev pub leaves : State → Event → State
leaves t (made x a) = after t x
leaves t (stepped w action o) = state_of t.condition (step_words t.condition t.words w action) t.counts

-- a list of events leads from one state to another
abbrev pub Runs : State → List Event → State → Type 0
Runs before [] end = before ≡ end
Runs before (e ∷ es) end = Answered before e × Runs (leaves before e) es end
