-- The word by which memory states its condition.
use Rattle.std.specs.Prelude.{ℕ, cond, List, [], ◌∷◌, ◌==◌, slice_index}
use Rattle.dynamic_storage.specs.Meaning.{inside, settable}
use Rattle.dynamic_storage.specs.declared.condition.Condition.{Condition}
use Rattle.dynamic_storage.specs.declared.condition.Condition.TheVariants.{Absent, Forming, Ready, Broken, OtherVersion}
use Rattle.dynamic_storage.specs.declared.condition.Stage.{Stage}
use Rattle.dynamic_storage.specs.declared.condition.Stage.TheVariants as stage

-- the condition that a code states: 0 Absent, 1 Forming, 2 Ready, 3 and 4 Broken, any other OtherVersion
abbrev pub stated : ℕ → Condition
stated code = cond (code == 0) Absent (cond (code == 1) Forming (cond (code == 2) Ready (cond (code == 3) Broken (cond (code == 4) Broken OtherVersion))))

-- the code that states what a caller asks for
abbrev pub code_of : Stage → ℕ
code_of stage.Absent = 0
code_of stage.Forming = 1
code_of stage.Ready = 2

-- the condition that the word at a place states; without a word there it is Broken
abbrev pub stated_at : List ℕ → ℕ → Condition
stated_at words place = cond (inside words place) (stated (slice_index words place)) Broken

-- the code at a place, where it is one that no call may replace
abbrev pub fixed_code : List ℕ → ℕ → List ℕ
fixed_code words place = cond (settable (stated_at words place)) [] (slice_index words place ∷ [])
