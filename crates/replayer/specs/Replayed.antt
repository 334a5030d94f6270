-- How a script ends.
use Rattle.std.specs.Prelude.{◌≡◌, ℕ, true, List, is_ok, Ok, Err, Result}
use Rattle.script.specs.declared.call.Pile.{Pile}
use Rattle.script.specs.declared.call.Call.{Call}
use Rattle.script.specs.declared.call.Expected.{Expected}
use Rattle.script.specs.declared.scripts.ScriptError.TheVariants.{NotUnderstood, OutOfMemory}
use Rattle.replayer.specs.declared.error.ReplayError.{ReplayError}
use Rattle.replayer.specs.declared.error.ReplayError.TheVariants.{Script, Output}

-- a line is reported exactly where the script has one that is not understood, and then it is that line; a script that
-- runs, to its end or until its output fails, is one of which every line is understood
abbrev pub Replayed : Result (Pile × List Call) (ℕ × Expected) → Result (Unit {0}) ReplayError → Type 0
Replayed script (Ok _) = is_ok script ≡ true
Replayed script (Err (Script (NotUnderstood line expected))) = script ≡ Err (line, expected)
Replayed script (Err (Script OutOfMemory)) = Unit {0}
Replayed script (Err (Output _)) = is_ok script ≡ true
