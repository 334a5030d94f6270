-- Sending a value on a channel, and reclaiming one.
use Rattle.std.specs.Prelude.{ℕ, ◌/◌, ◌%◌, Bool, true, false, cond, not, ◌&&◌, List, Some, None, Option, ◌==◌, nat_le, slice_index, slice_set}
use Rattle.dynamic_storage.specs.declared.condition.Condition.{Condition}
use Rattle.shm_allocator.specs.Offsets.{segment_of, offset_of}
use Rattle.connection_words.specs.declared.settings.Settings.{Settings}
use Rattle.connection_words.specs.Settings.{buffer, segments, samples}
use Rattle.connection_words.specs.Places.{submission_of, completion_of, size_at}
use Rattle.connection_words.specs.Soundness.{settings_of}
use Rattle.connection_words.specs.Queues.{count, entry, pushed, popped}
use Rattle.connection_words.specs.Chunks.{size_for, mark_of}
use Rattle.zero_copy_connection.specs.declared.mark.Mark.TheVariants.{Free, Used}
use Rattle.zero_copy_connection.specs.Answers.{Answer, refused, nothing, value, or_else, unless, answer_unless}
use Rattle.zero_copy_connection.specs.Marks.{is_mark, mark_word, mark_changed}
use Rattle.zero_copy_connection.specs.Checks.{channel_refusal}

-- as many values wait as the buffer takes
abbrev pub is_full : List ℕ → Settings → ℕ → Bool
is_full words s c = nat_le (buffer s) (count words (submission_of s c))

-- why a value is not taken as a chunk of samples of a size, by the first rule that applies
unfoldable pub chunk_refusal : List ℕ → Settings → ℕ → ℕ → ℕ → Option ℕ
chunk_refusal words s c v size =
    cond (nat_le (segments s) (segment_of v)) (Some 21)
    (cond (size == 0) (Some 22)
    (cond (not (size_for words s c v == 0) && not (size_for words s c v == size)) (Some 23)
    (cond (not (offset_of v % size == 0)) (Some 24)
    (cond (nat_le (samples s) (offset_of v / size)) (Some 25)
    (cond (is_mark Used (slice_index words (mark_of s c size v))) (Some 26) None)))))

-- why a value is not sent: 20 where the buffer is full and does not overflow
abbrev pub full_refusal : List ℕ → Settings → ℕ → Option ℕ
full_refusal words s c = cond (is_full words s c && not s.enable_safe_overflow) (Some 20) None

abbrev pub send_refusal : Condition → List ℕ → ℕ → ℕ → ℕ → Option ℕ
send_refusal condition words c v size =
    or_else (channel_refusal condition words c)
    (or_else (full_refusal words (settings_of words) c) (chunk_refusal words (settings_of words) c v size))

-- the size is recorded and the chunk marked as used
abbrev pub recorded : List ℕ → Settings → ℕ → ℕ → ℕ → List ℕ
recorded words s c v size = slice_set (slice_set words (size_at s c (segment_of v)) size) (mark_of s c size v) (mark_word Used)

-- the value joins the queue, where the oldest leaves first if the buffer is full
abbrev pub queued : List ℕ → Settings → ℕ → ℕ → Bool → List ℕ
queued words s c v true = pushed (popped words (submission_of s c)) (submission_of s c) v
queued words s c v false = pushed words (submission_of s c) v

-- the words of a send before the evicted value is judged
abbrev pub sent_words : List ℕ → Settings → ℕ → ℕ → ℕ → List ℕ
sent_words words s c v size = queued (recorded words s c v size) s c v (is_full words s c)

-- the oldest value that waits
abbrev pub oldest : List ℕ → Settings → ℕ → ℕ
oldest words s c = entry words (submission_of s c) 0

-- what becomes of a value that left a queue: its mark is cleared if it is a used chunk, and else n is refused
abbrev pub freed_answer : Option (List ℕ) → ℕ → ℕ → Answer
freed_answer (Some after) v n = value v
freed_answer None v n = refused n

abbrev pub freed_words : Option (List ℕ) → List ℕ → List ℕ
freed_words (Some after) words = after
freed_words None words = words

-- the evicted value, judged after the new size and mark are written
abbrev pub evicted : List ℕ → Settings → ℕ → ℕ → ℕ → Option (List ℕ)
evicted words s c v size = mark_changed (sent_words words s c v size) s c (oldest words s c) Used Free

abbrev pub send_answer : Condition → List ℕ → ℕ → ℕ → ℕ → Answer
send_answer condition words c v size =
    answer_unless (send_refusal condition words c v size)
    (cond (is_full words (settings_of words) c) (freed_answer (evicted words (settings_of words) c v size) (oldest words (settings_of words) c) 27) nothing)

abbrev pub send_words : Condition → List ℕ → ℕ → ℕ → ℕ → List ℕ
send_words condition words c v size =
    unless (send_refusal condition words c v size) words
    (cond (is_full words (settings_of words) c) (freed_words (evicted words (settings_of words) c v size) (sent_words words (settings_of words) c v size)) (sent_words words (settings_of words) c v size))

-- the returned value that a reclaim takes, and the words once it has left the queue
abbrev pub returned_first : List ℕ → Settings → ℕ → ℕ
returned_first words s c = entry words (completion_of s c) 0

abbrev pub taken : List ℕ → Settings → ℕ → List ℕ
taken words s c = popped words (completion_of s c)

abbrev pub freed : List ℕ → Settings → ℕ → Option (List ℕ)
freed words s c = mark_changed (taken words s c) s c (returned_first words s c) Used Free

abbrev pub none_returned : List ℕ → Settings → ℕ → Bool
none_returned words s c = count words (completion_of s c) == 0

abbrev pub reclaim_answer : Condition → List ℕ → ℕ → Answer
reclaim_answer condition words c =
    answer_unless (channel_refusal condition words c)
    (cond (none_returned words (settings_of words) c) nothing (freed_answer (freed words (settings_of words) c) (returned_first words (settings_of words) c) 32))

abbrev pub reclaim_words : Condition → List ℕ → ℕ → List ℕ
reclaim_words condition words c =
    unless (channel_refusal condition words c) words
    (cond (none_returned words (settings_of words) c) words (freed_words (freed words (settings_of words) c) (taken words (settings_of words) c)))
