-- What a storage means: a condition and a list of words of 64 bits.
use Rattle.std.specs.Prelude.{ℕ, Bool, true, false, cond, List, length, Some, None, Option, nat_lt, slice_index}
use Rattle.dynamic_storage.specs.declared.condition.Condition.{Condition}
use Rattle.dynamic_storage.specs.declared.condition.Condition.TheVariants.{Absent, Forming, Ready, Broken, OtherVersion}
use Rattle.dynamic_storage.specs.declared.condition.Stage.{Stage}
use Rattle.dynamic_storage.specs.declared.condition.Stage.TheVariants as stage

-- whether there is a word at a place
abbrev pub inside : List ℕ → ℕ → Bool
inside words place = nat_lt place (length words)

-- the word at a place, if there is one
abbrev pub word_at : List ℕ → ℕ → Option ℕ
word_at words place = cond (inside words place) (Some (slice_index words place)) None

-- the condition that a caller asks for
abbrev pub asked : Stage → Condition
asked stage.Absent = Absent
asked stage.Forming = Forming
asked stage.Ready = Ready

-- whether the condition can be set: what is broken or of another version is left alone
abbrev pub settable : Condition → Bool
settable Absent = true
settable Forming = true
settable Ready = true
settable Broken = false
settable OtherVersion = false

-- the condition after a caller asked for a stage
abbrev pub after_asking : Condition → Stage → Condition
after_asking condition to = cond (settable condition) (asked to) condition
