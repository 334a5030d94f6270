-- What a call of a history makes of the connection and of the pending sends.
use Rattle.std.specs.Prelude.{ℕ, cond, List, [], ◌∷◌, ◌++◌, map, length, Some, None, Option, nat_lt, slice_index_or, slice_set}
use Rattle.std.specs.Option.{option_map}
use Rattle.dynamic_storage.specs.declared.condition.Condition.{Condition}
use Rattle.zero_copy_connection.specs.Answers as calls
use Rattle.channel_laws.specs.Calls.{State, state_of, sends, receives, releases, reclaims, asks_data, asks_count, answered}
use Rattle.channel_laws.specs.Calls as on
use Rattle.blocking_send.specs.declared.waiting.Waiting.{Waiting}
use Rattle.blocking_send.specs.declared.action.BackpressureToReceiverAction.{BackpressureToReceiverAction}
use Rattle.blocking_send.specs.Waits.{Pending, begun, elapsed, goes, ends, step_outcome}
use Rattle.blocking_send.specs.Seen.{view_of}
use Rattle.history.specs.Events.{Event, made, stepped, leaves}
use Rattle.history_run.specs.declared.call.Call.{Call}
use Rattle.history_run.specs.declared.call.Call.TheVariants as call
use Rattle.history_run.specs.declared.answer.Answer.{Answer}
use Rattle.history_run.specs.declared.answer.Answer.TheVariants as answer

-- what the calls of a history act on: the connection, and the slots of the pending sends
pub record Held : Type 0 where
  pub connection : State
  pub slots : List (Option Pending)

abbrev pub held : State → List (Option Pending) → Held
held t slots = record { connection = t; slots = slots }

-- pending sends by their slots
abbrev pub views : List (Option Waiting) → List (Option Pending)
views waits = map (option_map view_of) waits

abbrev pub slot_of : List (Option Pending) → ℕ → Option Pending
slot_of slots id = slice_index_or slots id None

-- what a storage, counters and slots hold
abbrev pub held_in : {S : Type 0} → (S → Condition) → (S → List ℕ) → S → List ℕ → List (Option Waiting) → Held
held_in condition words storage counts waits = held (state_of (condition storage) (words storage) counts) (views waits)

-- what the policies answer, for how often they were asked and how long a send has been pending
abbrev pub Acts : Type 0 → Type 0
Acts P = P → ℕ → ℕ → BackpressureToReceiverAction

-- a call on the connection is an event, with the answer that the connection gives
abbrev pub makes : State → on.Call → Option Event
makes t x = Some (made x (answered t x))

-- and so is a step of a pending send, with the action of its policy
abbrev pub steps : State → BackpressureToReceiverAction → Pending → Event
steps t action w = stepped w action (step_outcome t.condition t.words w action)

-- the event that a call is: to begin a send, or to step in a slot where none is pending, is none
abbrev pub event_of : {P : Type 0} → Acts P → Held → Call P → Option Event
event_of acts h (call.Send v size c) = makes h.connection (sends v.0 size c)
event_of acts h (call.Receive c) = makes h.connection (receives c)
event_of acts h (call.Release v c) = makes h.connection (releases v.0 c)
event_of acts h (call.Reclaim c) = makes h.connection (reclaims c)
event_of acts h (call.HasData c) = makes h.connection (asks_data c)
event_of acts h (call.BorrowCount c) = makes h.connection (asks_count c)
event_of acts h (call.Begin id v size c strategy budget) = None
event_of acts h (call.Step id policy) =
    option_map (λ w. steps h.connection (acts policy w.retries (elapsed w)) w) (slot_of h.slots id)

-- what an event leaves of the connection
abbrev pub leaves_if : State → Option Event → State
leaves_if t None = t
leaves_if t (Some e) = leaves t e

-- what a step leaves in its slot: the send that is still pending, and nothing once it has ended
abbrev pub slots_with : List (Option Pending) → ℕ → Option Event → List (Option Pending)
slots_with slots id None = slots
slots_with slots id (Some (made x a)) = slots
slots_with slots id (Some (stepped w action (goes w'))) = slice_set slots id (Some w')
slots_with slots id (Some (stepped w action (ends a))) = slice_set slots id None

abbrev pub slots_after : {P : Type 0} → Acts P → Held → Call P → List (Option Pending)
slots_after acts h (call.Send v size c) = h.slots
slots_after acts h (call.Receive c) = h.slots
slots_after acts h (call.Release v c) = h.slots
slots_after acts h (call.Reclaim c) = h.slots
slots_after acts h (call.HasData c) = h.slots
slots_after acts h (call.BorrowCount c) = h.slots
slots_after acts h (call.Begin id v size c strategy budget) = slice_set h.slots id (Some (begun v.0 size c strategy budget))
slots_after acts h (call.Step id policy) = slots_with h.slots id (event_of acts h (call.Step id policy))

abbrev pub next : {P : Type 0} → Acts P → Held → Call P → Held
next acts h x = held (leaves_if h.connection (event_of acts h x)) (slots_after acts h x)

-- an answer, and that of a send, which names what was sent
abbrev pub plain : calls.Answer → Answer
plain (calls.refused n) = answer.Refused n
plain calls.nothing = answer.Nothing
plain (calls.value v) = answer.Value v
plain (calls.flag b) = answer.Flag b
plain (calls.number n) = answer.Number n

abbrev pub sent : ℕ → ℕ → calls.Answer → Answer
sent v c (calls.refused n) = answer.Refused n
sent v c calls.nothing = answer.Sent v c None
sent v c (calls.value old) = answer.Sent v c (Some old)
sent v c (calls.flag b) = answer.Sent v c None
sent v c (calls.number n) = answer.Sent v c None

abbrev pub answer_to : on.Call → calls.Answer → Answer
answer_to (sends v size c) a = sent v c a
answer_to (receives c) a = plain a
answer_to (releases v c) a = plain a
answer_to (reclaims c) a = plain a
answer_to (asks_data c) a = plain a
answer_to (asks_count c) a = plain a

-- the answer of an event
abbrev pub answer_of : Event → Answer
answer_of (made x a) = answer_to x a
answer_of (stepped w action (goes w')) = answer.Pending
answer_of (stepped w action (ends a)) = sent w.value w.channel a

abbrev pub answer_else : Answer → Option Event → Answer
answer_else a None = a
answer_else a (Some e) = answer_of e

abbrev pub begin_answer : List (Option Pending) → ℕ → Answer
begin_answer slots id = cond (nat_lt id (length slots)) answer.Begun answer.NoSlot

-- the answer of a call that is no event
abbrev pub idle : {P : Type 0} → Held → Call P → Answer
idle h (call.Send v size c) = answer.Nothing
idle h (call.Receive c) = answer.Nothing
idle h (call.Release v c) = answer.Nothing
idle h (call.Reclaim c) = answer.Nothing
idle h (call.HasData c) = answer.Nothing
idle h (call.BorrowCount c) = answer.Nothing
idle h (call.Begin id v size c strategy budget) = begin_answer h.slots id
idle h (call.Step id policy) = answer.NoWait

abbrev pub told : {P : Type 0} → Acts P → Held → Call P → Answer
told acts h x = answer_else (idle h x) (event_of acts h x)

abbrev pub listed : {A : Type 0} → Option A → List A
listed None = []
listed (Some a) = a ∷ []

-- the events of a list of calls
abbrev pub events : {P : Type 0} → Acts P → Held → List (Call P) → List Event
events acts h [] = []
events acts h (x ∷ xs) = listed (event_of acts h x) ++ events acts (next acts h x) xs
