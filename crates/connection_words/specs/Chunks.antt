-- Chunks: a segment and the index of a sample in it; and their marks.
use Rattle.std.specs.Prelude.{ℕ, ◌/◌, ◌%◌, Bool, cond, not, ◌&&◌, List, Some, None, Option, ◌==◌, nat_lt, slice_index}
use Rattle.shm_allocator.specs.Offsets.{segment_of, offset_of}
use Rattle.connection_words.specs.declared.settings.Settings.{Settings}
use Rattle.connection_words.specs.Settings.{segments, samples}
use Rattle.connection_words.specs.Places.{size_at, mark_at}

-- the size that is recorded for the segment that a value names, 0 for none yet
abbrev pub size_for : List ℕ → Settings → ℕ → ℕ → ℕ
size_for words s c v = slice_index words (size_at s c (segment_of v))

-- whether a value names a chunk, where samples have a size: its segment is there, the size is not 0, the offset is a
-- multiple of it, and the index is below the number of samples
abbrev pub names : Settings → ℕ → ℕ → Bool
names s size v =
    nat_lt (segment_of v) (segments s)
    && (not (size == 0) && (offset_of v % size == 0 && nat_lt (offset_of v / size) (samples s)))

-- where the mark of the chunk that a value names stands
abbrev pub mark_of : Settings → ℕ → ℕ → ℕ → ℕ
mark_of s c size v = mark_at s c (segment_of v) (offset_of v / size)

-- where the mark of a value stands, if the value names a chunk of the channel
abbrev pub chunk_mark : List ℕ → Settings → ℕ → ℕ → Option ℕ
chunk_mark words s c v = cond (names s (size_for words s c v) v) (Some (mark_of s c (size_for words s c v) v)) None

-- whether a mark says that its chunk is used
abbrev pub is_used : ℕ → Bool
is_used mark = not (mark == 0)
