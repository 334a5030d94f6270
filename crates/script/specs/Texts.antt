use Rattle.std.specs.Prelude.{ℕ, List, ◌++◌, codes}
use Rattle.std.specs.Fmt.{decimal}
use Rattle.script.specs.declared.call.Expected.{Expected}
use Rattle.script.specs.declared.call.Expected.TheVariants as expected
use Rattle.script.specs.declared.scripts.ScriptError.{ScriptError}
use Rattle.script.specs.declared.scripts.ScriptError.TheVariants.{NotUnderstood, OutOfMemory}

-- what was expected, in words
abbrev pub expected_text : Expected → List ℕ
expected_text expected.Keyword = codes "a call"
expected_text expected.Number = codes "a number below 2^64"
expected_text expected.Segment = codes "a segment, 0 to 255"
expected_text expected.Stage = codes "absent, forming or ready"
expected_text expected.Backing = codes "words N, bytes N or inner"
expected_text expected.Layer = codes "window A N or swapped, each at most once and in order"
expected_text expected.Overflow = codes "0 or 1"
expected_text expected.State = codes "a number below 2^64 or closed"
expected_text expected.Port = codes "sender or receiver"
expected_text expected.End = codes "the end of the line"
expected_text expected.StorageFirst = codes "storage on the first line only"
expected_text expected.CodeNeedsMemory = codes "code over words or bytes only"

-- why a text gives no script, in words
abbrev pub script_error_text : ScriptError → List ℕ
script_error_text (NotUnderstood n e) = codes "line " ++ (decimal n ++ (codes ": expected " ++ expected_text e))
script_error_text OutOfMemory = codes "out of memory"
