-- The calls on a channel as one kind of thing: what each answers and what it leaves.
use Rattle.std.specs.Prelude.{ℕ, List}
use Rattle.dynamic_storage.specs.declared.condition.Condition.{Condition}
use Rattle.zero_copy_connection.specs.Answers.{Answer}
use Rattle.zero_copy_connection.specs.Sending.{send_answer, send_words, reclaim_answer, reclaim_words}
use Rattle.zero_copy_connection.specs.Receiving.{receive_answer, receive_words, receive_counts, release_answer, release_words, release_counts, has_data_answer, borrow_count_answer}

-- what the calls act on: the condition and the words of a storage, and the receiver's counters
pub record State : Type 0 where
  pub condition : Condition
  pub words : List ℕ
  pub counts : List ℕ

abbrev pub state_of : Condition → List ℕ → List ℕ → State
state_of condition words counts = record { condition = condition; words = words; counts = counts }

-- a call with its arguments
pub data Call : Type 0 where
  sends : (v size c : ℕ) → Call
  receives : (c : ℕ) → Call
  releases : (v c : ℕ) → Call
  reclaims : (c : ℕ) → Call
  asks_data : (c : ℕ) → Call
  asks_count : (c : ℕ) → Call

-- the channel that a call is made on
abbrev pub channel_of : Call → ℕ
channel_of (sends v size c) = c
channel_of (receives c) = c
channel_of (releases v c) = c
channel_of (reclaims c) = c
channel_of (asks_data c) = c
channel_of (asks_count c) = c

-- what a call answers
abbrev pub answered : State → Call → Answer
answered t (sends v size c) = send_answer t.condition t.words c v size
answered t (receives c) = receive_answer t.condition t.words t.counts c
answered t (releases v c) = release_answer t.condition t.words t.counts c
answered t (reclaims c) = reclaim_answer t.condition t.words c
answered t (asks_data c) = has_data_answer t.condition t.words c
answered t (asks_count c) = borrow_count_answer t.condition t.words t.counts c

-- what a call leaves; the condition stays
abbrev pub after : State → Call → State
after t (sends v size c) = state_of t.condition (send_words t.condition t.words c v size) t.counts
after t (receives c) = state_of t.condition (receive_words t.condition t.words t.counts c) (receive_counts t.condition t.words t.counts c)
after t (releases v c) = state_of t.condition (release_words t.condition t.words t.counts v c) (release_counts t.condition t.words t.counts c)
after t (reclaims c) = state_of t.condition (reclaim_words t.condition t.words c) t.counts
after t (asks_data c) = t
after t (asks_count c) = t
