-- Receiving a value on a channel, releasing one, and asking.
use Rattle.std.specs.Prelude.{ℕ, ◌+◌, ◌-◌, Bool, cond, List, Some, None, Option, ◌==◌, nat_le, nat_lt, slice_index, slice_set}
use Rattle.dynamic_storage.specs.declared.condition.Condition.{Condition}
use Rattle.connection_words.specs.declared.settings.Settings.{Settings}
use Rattle.connection_words.specs.Settings.{borrowed, completions}
use Rattle.connection_words.specs.Places.{submission_of, completion_of}
use Rattle.connection_words.specs.Soundness.{settings_of}
use Rattle.connection_words.specs.Queues.{count, entry, pushed, popped}
use Rattle.zero_copy_connection.specs.Answers.{Answer, nothing, value, flag, number, or_else, unless, answer_unless}
use Rattle.zero_copy_connection.specs.Checks.{channel_refusal}

-- how many values are borrowed on a channel
abbrev pub borrow_count : List ℕ → ℕ → ℕ
borrow_count counts c = slice_index counts c

-- 40 where as many are borrowed as may be, also where nothing waits
abbrev pub receive_refusal : Condition → List ℕ → List ℕ → ℕ → Option ℕ
receive_refusal condition words counts c =
    or_else (channel_refusal condition words c) (cond (nat_le (borrowed (settings_of words)) (borrow_count counts c)) (Some 40) None)

abbrev pub is_empty : List ℕ → Settings → ℕ → Bool
is_empty words s c = count words (submission_of s c) == 0

abbrev pub receive_answer : Condition → List ℕ → List ℕ → ℕ → Answer
receive_answer condition words counts c =
    answer_unless (receive_refusal condition words counts c)
    (cond (is_empty words (settings_of words) c) nothing (value (entry words (submission_of (settings_of words) c) 0)))

abbrev pub receive_words : Condition → List ℕ → List ℕ → ℕ → List ℕ
receive_words condition words counts c =
    unless (receive_refusal condition words counts c) words
    (cond (is_empty words (settings_of words) c) words (popped words (submission_of (settings_of words) c)))

abbrev pub receive_counts : Condition → List ℕ → List ℕ → ℕ → List ℕ
receive_counts condition words counts c =
    unless (receive_refusal condition words counts c) counts
    (cond (is_empty words (settings_of words) c) counts (slice_set counts c (borrow_count counts c + 1)))

-- 41 where no value more can wait to be reclaimed, then 42 where nothing is borrowed
abbrev pub release_refusal : Condition → List ℕ → List ℕ → ℕ → Option ℕ
release_refusal condition words counts c =
    or_else (channel_refusal condition words c)
    (cond (nat_le (completions (settings_of words)) (count words (completion_of (settings_of words) c))) (Some 41)
    (cond (borrow_count counts c == 0) (Some 42) None))

abbrev pub release_answer : Condition → List ℕ → List ℕ → ℕ → Answer
release_answer condition words counts c = answer_unless (release_refusal condition words counts c) nothing

abbrev pub release_words : Condition → List ℕ → List ℕ → ℕ → ℕ → List ℕ
release_words condition words counts v c =
    unless (release_refusal condition words counts c) words (pushed words (completion_of (settings_of words) c) v)

abbrev pub release_counts : Condition → List ℕ → List ℕ → ℕ → List ℕ
release_counts condition words counts c =
    unless (release_refusal condition words counts c) counts (slice_set counts c (borrow_count counts c - 1))

-- whether a value waits
abbrev pub has_data_answer : Condition → List ℕ → ℕ → Answer
has_data_answer condition words c =
    answer_unless (channel_refusal condition words c) (flag (nat_lt 0 (count words (submission_of (settings_of words) c))))

abbrev pub borrow_count_answer : Condition → List ℕ → List ℕ → ℕ → Answer
borrow_count_answer condition words counts c = answer_unless (channel_refusal condition words c) (number (borrow_count counts c))
