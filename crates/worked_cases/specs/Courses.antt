-- Lists of calls on a connection that was just created.
use Rattle.std.specs.Prelude.{◌≡◌, ℕ, ◌≤◌, Bool, List, [], ◌∷◌, length, replicate, None, slice_index}
use Rattle.dynamic_storage.specs.declared.condition.Condition.{Condition}
use Rattle.dynamic_storage.specs.declared.condition.Condition.TheVariants.{Absent}
use Rattle.connection_words.specs.declared.settings.Settings.{Settings}
use Rattle.connection_words.specs.Places.{needed, submission_of, completion_of}
use Rattle.connection_words.specs.Soundness.{settings_of}
use Rattle.connection_words.specs.Queues.{entries}
use Rattle.connection_words.specs.Chunks.{size_for, mark_of, is_used}
use Rattle.connection_ports.specs.declared.port.Port.{Port}
use Rattle.connection_ports.specs.Creation.{creation_refusal, creation_words, creation_condition}
use Rattle.connection_ports.specs.Laws.{other}
use Rattle.zero_copy_connection.specs.Answers.{Answer}
use Rattle.zero_copy_connection.specs.Receiving.{borrow_count}
use Rattle.channel_laws.specs.Calls.{State, state_of, Call, answered, after}

-- what calls answer, made one after the other, and what they leave
abbrev pub answers_of : State → List Call → List Answer
answers_of t [] = []
answers_of t (x ∷ xs) = answered t x ∷ answers_of (after t x) xs

abbrev pub after_all : State → List Call → State
after_all t [] = t
after_all t (x ∷ xs) = after_all (after t x) xs

-- what the creation of a port leaves, with all channels open, and the counters of a new receiver
abbrev pub with_port : Port → Settings → Condition → List ℕ → State
with_port p s condition words =
    state_of (creation_condition p s condition words) (creation_words p s 0 condition words) (replicate 64 0)

-- port p was created over an absent storage with some words
abbrev pub with_one : Port → Settings → List ℕ → State
with_one p s before = with_port p s Absent before

-- the other port was created next, and nothing else was called
abbrev pub connected : Port → Settings → List ℕ → State
connected p s before = with_port (other p) s (with_one p s before).condition (with_one p s before).words

-- the values that wait on channel 0, the oldest first
abbrev pub waiting : State → List ℕ
waiting t = entries t.words (submission_of (settings_of t.words) 0)

-- the values that wait to be reclaimed on channel 0, the oldest first
abbrev pub returned : State → List ℕ
returned t = entries t.words (completion_of (settings_of t.words) 0)

-- how many values are borrowed on channel 0
abbrev pub on_loan : State → ℕ
on_loan t = borrow_count t.counts 0

-- whether the chunk of a value is marked as used on channel 0
abbrev pub is_marked : State → ℕ → Bool
is_marked t v = is_used (slice_index t.words (mark_of (settings_of t.words) 0 (size_for t.words (settings_of t.words) 0 v) v))

-- calls on a new connection: both ports were accepted, the calls answer just this, and so the states before and after all of
-- them are related
pub record Course (p : Port) (s : Settings) (before : List ℕ) (calls : List Call) (answers : List Answer) (Ends : State → State → Type 0) : Type 0 where
  pub first : creation_refusal p s Absent before ≡ None
  pub second : creation_refusal (other p) s (with_one p s before).condition (with_one p s before).words ≡ None
  pub answer : answers_of (connected p s before) calls ≡ answers
  pub ends : Ends (connected p s before) (after_all (connected p s before) calls)

-- whichever port is created first, over any absent storage with room
abbrev pub Case : Settings → List Call → List Answer → (State → State → Type 0) → Type 0
Case s calls answers Ends = (p : Port) (before : List ℕ) → needed s ≤ length before → Course p s before calls answers Ends
