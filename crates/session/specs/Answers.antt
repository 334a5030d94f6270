-- What the calls of a script on the storage alone answer and leave.
use Rattle.std.specs.Prelude.{ℕ, Bool, true, false, List, length, Some, None, Option, slice_set}
use Rattle.dynamic_storage.specs.Meaning.{inside, word_at, settable, after_asking}
use Rattle.dynamic_storage.specs.declared.condition.Condition.{Condition}
use Rattle.script.specs.declared.call.Call.{Call}
use Rattle.script.specs.declared.call.Call.TheVariants as call
use Rattle.shm_allocator.specs.Offsets.{value_of, segment_of, offset_of}
use Rattle.session.specs.declared.answer.Answer.{Answer}
use Rattle.session.specs.declared.answer.Answer.TheVariants as answer

abbrev pub yes_or_no : Bool → Answer
yes_or_no true = answer.Yes
yes_or_no false = answer.No

abbrev pub value_or_none : Option ℕ → Answer
value_or_none (Some v) = answer.Value v
value_or_none None = answer.None

-- the answer of a call on a storage with a condition and words
abbrev pub answered : Call → Condition → List ℕ → Answer
answered call.Condition condition words = answer.Shows condition
answered call.Length condition words = answer.Count (length words)
answered call.Words condition words = answer.List
answered (call.Read place) condition words = value_or_none (word_at words place)
answered (call.Write place word) condition words = yes_or_no (inside words place)
answered (call.SetCondition to) condition words = yes_or_no (settable condition)
answered (call.Code code) condition words = answer.No
answered (call.Offset value) condition words = answer.Place (segment_of value) (offset_of value)
answered (call.Value offset segment) condition words = answer.Value (value_of offset segment)
answered (call.Settings settings state) condition words = answer.No
answered (call.Create port) condition words = answer.No
answered (call.Close port) condition words = answer.No
answered call.Counters condition words = answer.No
answered (call.Send offset segment size channel) condition words = answer.No
answered (call.Receive channel) condition words = answer.No
answered (call.Release offset segment channel) condition words = answer.No
answered (call.Reclaim channel) condition words = answer.No
answered (call.HasData channel) condition words = answer.No
answered (call.BorrowCount channel) condition words = answer.No

-- the words after a call
abbrev pub words_after : Call → List ℕ → List ℕ
words_after call.Condition words = words
words_after call.Length words = words
words_after call.Words words = words
words_after (call.Read place) words = words
words_after (call.Write place word) words = slice_set words place word
words_after (call.SetCondition to) words = words
words_after (call.Code code) words = words
words_after (call.Offset value) words = words
words_after (call.Value offset segment) words = words
words_after (call.Settings settings state) words = words
words_after (call.Create port) words = words
words_after (call.Close port) words = words
words_after call.Counters words = words
words_after (call.Send offset segment size channel) words = words
words_after (call.Receive channel) words = words
words_after (call.Release offset segment channel) words = words
words_after (call.Reclaim channel) words = words
words_after (call.HasData channel) words = words
words_after (call.BorrowCount channel) words = words

-- the condition after a call
abbrev pub condition_after : Call → Condition → Condition
condition_after call.Condition condition = condition
condition_after call.Length condition = condition
condition_after call.Words condition = condition
condition_after (call.Read place) condition = condition
condition_after (call.Write place word) condition = condition
condition_after (call.SetCondition to) condition = after_asking condition to
condition_after (call.Code code) condition = condition
condition_after (call.Offset value) condition = condition
condition_after (call.Value offset segment) condition = condition
condition_after (call.Settings settings state) condition = condition
condition_after (call.Create port) condition = condition
condition_after (call.Close port) condition = condition
condition_after call.Counters condition = condition
condition_after (call.Send offset segment size channel) condition = condition
condition_after (call.Receive channel) condition = condition
condition_after (call.Release offset segment channel) condition = condition
condition_after (call.Reclaim channel) condition = condition
condition_after (call.HasData channel) condition = condition
condition_after (call.BorrowCount channel) condition = condition
