-- The lists of a channel, from the calls and the answers of a history alone.
use Rattle.std.specs.Prelude.{ℕ, cond, List, [], ◌∷◌, ◌++◌, Some, None, vec_items, Option, ◌==◌}
use Rattle.history.specs.Books.{Books, minus}
use Rattle.history_run.specs.declared.call.Call.{Call}
use Rattle.history_run.specs.declared.call.Call.TheVariants as call
use Rattle.history_run.specs.declared.answer.Answer.{Answer}
use Rattle.history_run.specs.declared.answer.Answer.TheVariants as answer
use Rattle.history_lists.specs.declared.lists.Lists.{Lists}
use Rattle.history_lists.specs.declared.lists.Moves.{Moves}
use Rattle.history_run.specs.Made.{listed}

pub record Tally : Type 0 where
  pub waiting : List ℕ
  pub on_loan : List ℕ
  pub returned : List ℕ

abbrev pub tally : List ℕ → List ℕ → List ℕ → Tally
tally waiting on_loan returned = record { waiting = waiting; on_loan = on_loan; returned = returned }

abbrev pub empty : Tally
empty = tally [] [] []

-- the three lists of books, and of what the program holds
abbrev pub tally_of : Books → Tally
tally_of b = tally b.waiting b.on_loan b.returned

abbrev pub tally_in : Lists → Tally
tally_in lists = tally (vec_items lists.waiting) (vec_items lists.on_loan) (vec_items lists.returned)

abbrev pub moves : ℕ → Option ℕ → Option ℕ → Option ℕ → Option ℕ → Option ℕ → Moves
moves c sent evicted received released reclaimed =
    record { channel = c; sent = sent; evicted = evicted; received = received; released = released; reclaimed = reclaimed }

abbrev pub none : Moves
none = moves 0 None None None None None

-- a value that is answered, and a value that is given and not refused
abbrev pub value_in : Answer → Option ℕ
value_in (answer.Refused n) = None
value_in answer.Nothing = None
value_in (answer.Value v) = Some v
value_in (answer.Flag b) = None
value_in (answer.Number n) = None
value_in (answer.Sent v c evicted) = None
value_in answer.Begun = None
value_in answer.NoSlot = None
value_in answer.Pending = None
value_in answer.NoWait = None

abbrev pub granted : Answer → ℕ → Option ℕ
granted (answer.Refused n) v = None
granted answer.Nothing v = Some v
granted (answer.Value w) v = Some v
granted (answer.Flag b) v = Some v
granted (answer.Number n) v = Some v
granted (answer.Sent w c evicted) v = Some v
granted answer.Begun v = Some v
granted answer.NoSlot v = Some v
granted answer.Pending v = Some v
granted answer.NoWait v = Some v

-- a send that is answered says itself what was sent
abbrev pub moved_by_send : Answer → Moves
moved_by_send (answer.Refused n) = none
moved_by_send answer.Nothing = none
moved_by_send (answer.Value v) = none
moved_by_send (answer.Flag b) = none
moved_by_send (answer.Number n) = none
moved_by_send (answer.Sent v c evicted) = moves c (Some v) evicted None None None
moved_by_send answer.Begun = none
moved_by_send answer.NoSlot = none
moved_by_send answer.Pending = none
moved_by_send answer.NoWait = none

abbrev pub moves_of : {P : Type 0} → Call P → Answer → Moves
moves_of (call.Send v size c) a = moved_by_send a
moves_of (call.Receive c) a = moves c None None (value_in a) None None
moves_of (call.Release v c) a = moves c None None None (granted a v.0) None
moves_of (call.Reclaim c) a = moves c None None None None (value_in a)
moves_of (call.HasData c) a = none
moves_of (call.BorrowCount c) a = none
moves_of (call.Begin id v size c strategy budget) a = none
moves_of (call.Step id policy) a = moved_by_send a

abbrev pub moved_to : Moves → Tally → Tally
moved_to m t =
    tally
    (minus t.waiting (listed m.evicted ++ listed m.received) ++ listed m.sent)
    (minus t.on_loan (listed m.released) ++ listed m.received)
    (minus t.returned (listed m.reclaimed) ++ listed m.released)

abbrev pub moved : ℕ → Moves → Tally → Tally
moved c m t = cond (m.channel == c) (moved_to m t) t

abbrev pub tallied : {P : Type 0} → ℕ → List (Call P) → List Answer → Tally → Tally
tallied c [] answers t = t
tallied c (x ∷ xs) [] t = t
tallied c (x ∷ xs) (a ∷ answers) t = tallied c xs answers (moved c (moves_of x a) t)
