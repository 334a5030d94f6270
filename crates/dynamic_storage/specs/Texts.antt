-- The word by which a condition is printed.
use Rattle.std.specs.Prelude.{ℕ, List, codes}
use Rattle.dynamic_storage.specs.declared.condition.Condition.{Condition}
use Rattle.dynamic_storage.specs.declared.condition.Condition.TheVariants.{Absent, Forming, Ready, Broken, OtherVersion}

abbrev pub condition_text : Condition → List ℕ
condition_text Absent = codes "absent"
condition_text Forming = codes "forming"
condition_text Ready = codes "ready"
condition_text Broken = codes "broken"
condition_text OtherVersion = codes "other"
