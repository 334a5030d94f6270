-- What a state says of a channel.
use Rattle.std.specs.Prelude.{◌≡◌, ℕ, ◌/◌, ◌<◌, Bool, cond, ◌&&◌, List, ◌==◌, slice_index}
use Rattle.shm_allocator.specs.Offsets.{segment_of, offset_of}
use Rattle.connection_words.specs.declared.settings.Settings.{Settings}
use Rattle.connection_words.specs.Settings.{segments, samples}
use Rattle.connection_words.specs.Places.{submission_of, completion_of, state_at, size_at, mark_at}
use Rattle.connection_words.specs.Soundness.{settings_of}
use Rattle.connection_words.specs.Queues.{entries}
use Rattle.connection_words.specs.Chunks.{names}
use Rattle.zero_copy_connection.specs.declared.mark.Mark.{Mark}
use Rattle.zero_copy_connection.specs.declared.mark.Mark.TheVariants.{Used}
use Rattle.zero_copy_connection.specs.Marks.{is_mark, mark_word}
use Rattle.zero_copy_connection.specs.Receiving.{borrow_count}
use Rattle.channel_laws.specs.Calls.{State}

abbrev pub settings : State → Settings
settings t = settings_of t.words

-- the values that wait on channel c to be received, and those that wait to be reclaimed, the oldest first
abbrev pub waiting : State → ℕ → List ℕ
waiting t c = entries t.words (submission_of (settings t) c)

abbrev pub returned : State → ℕ → List ℕ
returned t c = entries t.words (completion_of (settings t) c)

-- the recorded size of segment g, and the mark of its sample i
abbrev pub size_in : State → ℕ → ℕ → ℕ
size_in t c g = slice_index t.words (size_at (settings t) c g)

abbrev pub mark_in : State → ℕ → ℕ → ℕ → ℕ
mark_in t c g i = slice_index t.words (mark_at (settings t) c g i)

-- the state of channel c, and how many values are borrowed on it
abbrev pub state_in : State → ℕ → ℕ
state_in t c = slice_index t.words (state_at (settings t) c)

abbrev pub borrowed_in : State → ℕ → ℕ
borrowed_in t c = borrow_count t.counts c

-- the queues, sizes and marks of channel c are these
pub record Shows (t : State) (c : ℕ) (waits returns : List ℕ) (sizes : ℕ → ℕ) (marks : ℕ → ℕ → ℕ) : Type 0 where
  pub waiting_is : waiting t c ≡ waits
  pub returned_is : returned t c ≡ returns
  pub sizes_are : (g : ℕ) → g < segments (settings t) → size_in t c g ≡ sizes g
  pub marks_are : (g i : ℕ) → g < segments (settings t) → i < samples (settings t) → mark_in t c g i ≡ marks g i

-- sizes where that of a value's segment is recorded
abbrev pub resized : (ℕ → ℕ) → ℕ → ℕ → ℕ → ℕ
resized sizes v size g = cond (g == segment_of v) size (sizes g)

-- whether sample i of segment g is the chunk of a value
abbrev pub is_chunk : (ℕ → ℕ) → ℕ → ℕ → ℕ → Bool
is_chunk sizes v g i = g == segment_of v && i == offset_of v / sizes (segment_of v)

-- marks where that of a value's chunk is written
abbrev pub remarked : (ℕ → ℕ → ℕ) → (ℕ → ℕ) → ℕ → Mark → ℕ → ℕ → ℕ
remarked marks sizes v mark g i = cond (is_chunk sizes v g i) (mark_word mark) (marks g i)

-- whether a value names a chunk that is used
abbrev pub names_used : Settings → (ℕ → ℕ) → (ℕ → ℕ → ℕ) → ℕ → Bool
names_used s sizes marks v =
    names s (sizes (segment_of v)) v && is_mark Used (marks (segment_of v) (offset_of v / sizes (segment_of v)))
