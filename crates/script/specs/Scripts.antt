use Rattle.std.specs.Prelude.{ℕ, ◌+◌, Bool, true, false, cond, ◌&&◌, List, [], ◌∷◌, ◌++◌, Some, None, Ok, Err, Option, Result}
use Rattle.std.specs.Option.{unwrap_or}
use Rattle.script.specs.declared.call.Backing.{Backing}
use Rattle.script.specs.declared.call.Backing.TheVariants as backings
use Rattle.script.specs.declared.call.Pile.{Pile}
use Rattle.script.specs.declared.call.Call.{Call}
use Rattle.script.specs.declared.call.Line.{Line}
use Rattle.script.specs.declared.call.Line.TheVariants as lines
use Rattle.script.specs.declared.call.Expected.{Expected}
use Rattle.script.specs.declared.call.Expected.TheVariants as expected
use Rattle.script.specs.Tokens.{tokens}
use Rattle.script.specs.Grammar.{is, then, parsed_line}
use Rattle.script.specs.Lines.{lines_of}

-- the storage of a script that does not describe one
abbrev pub usual : Pile
usual = record { backing = backings.Words 4097; lower = None; swapped = false; upper = None }

-- whether a storage is the inner one
abbrev pub is_inner : Backing → Bool
is_inner (backings.Words n) = false
is_inner (backings.Bytes n) = false
is_inner backings.Inner = true

-- whether a line begins with `code`
abbrev pub is_code : List (List ℕ) → Bool
is_code [] = false
is_code (k ∷ ws) = is k "code"

-- a line over a storage: an inner one has no code to write
abbrev pub line_on : Backing → List ℕ → Result Line Expected
line_on b l = cond (is_inner b && is_code (tokens l)) (Err expected.CodeNeedsMemory) (parsed_line (tokens l))

-- what was read: the storage, once a line came that is not blank, and the calls
abbrev pub Sofar : Type 0
Sofar = Option Pile × List Call

-- a storage comes first
abbrev pub with_pile : Sofar → Pile → Result Sofar Expected
with_pile (Some q, cs) p = Err expected.StorageFirst
with_pile (None, cs) p = Ok (Some p, cs)

-- a call more
abbrev pub with_call : Sofar → Call → Result Sofar Expected
with_call s c = Ok (Some (unwrap_or s.0 usual), s.1 ++ c ∷ [])

-- what a line adds
abbrev pub with_line : Sofar → Line → Result Sofar Expected
with_line s lines.Blank = Ok s
with_line s (lines.Storage p) = with_pile s p
with_line s (lines.Call c) = with_call s c

-- a line more, where it is understood
abbrev pub after_line : Sofar → List ℕ → Result Sofar Expected
after_line s l = then (line_on (unwrap_or s.0 usual).backing l) (with_line s)

-- goes on unless the line n is not understood
abbrev pub numbered : {A B : Type 0} → ℕ → Result A Expected → (A → Result B (ℕ × Expected)) → Result B (ℕ × Expected)
numbered n (Ok a) f = f a
numbered n (Err e) f = Err (n, e)

-- a script by its lines after the first n, which gave s
abbrev pub after_lines : ℕ → Sofar → List (List ℕ) → Result (Pile × List Call) (ℕ × Expected)
after_lines n s [] = Ok (unwrap_or s.0 usual, s.1)
after_lines n s (l ∷ ls) = numbered (n + 1) (after_line s l) (λ t. after_lines (n + 1) t ls)

-- the storage and the calls of a script, or the first line that is not understood
abbrev pub parsed_script : List ℕ → Result (Pile × List Call) (ℕ × Expected)
parsed_script text = after_lines 0 (None, []) (lines_of text)
