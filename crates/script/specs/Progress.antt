use Rattle.std.specs.Prelude.{◌≡◌, ℕ, List, Ok, Err, vec_items, Result}
use Rattle.script.specs.declared.call.Pile.{Pile}
use Rattle.script.specs.declared.call.Call.{Call}
use Rattle.script.specs.declared.call.Expected.{Expected}
use Rattle.script.specs.declared.scripts.Reading.{Reading}
use Rattle.script.specs.declared.scripts.Script.{Script}
use Rattle.script.specs.declared.scripts.ScriptError.{ScriptError}
use Rattle.script.specs.declared.scripts.ScriptError.TheVariants.{NotUnderstood, OutOfMemory}
use Rattle.script.specs.Scripts.{Sofar}

-- what a reading holds
abbrev pub sofar : Reading → Sofar
sofar r = (r.pile, vec_items r.calls)

-- what an answer says of the line n: what was read with it, or why it is not understood
abbrev pub Took : Result Sofar Expected → ℕ → Reading → Result (Unit {0}) ScriptError → Type 0
Took s n after (Ok _) = s ≡ Ok (sofar after)
Took s n after (Err (NotUnderstood m e)) = (s ≡ Err e) × (m ≡ n)
Took s n after (Err OutOfMemory) = Unit {0}

-- what an answer says of a script
abbrev pub Parsed : Result (Pile × List Call) (ℕ × Expected) → Result Script ScriptError → Type 0
Parsed p (Ok s) = p ≡ Ok (s.pile, vec_items s.calls)
Parsed p (Err (NotUnderstood n e)) = p ≡ Err (n, e)
Parsed p (Err OutOfMemory) = Unit {0}
