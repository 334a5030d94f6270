-- What a close leaves, from what its steps tell.
use Rattle.std.proofs.Common.{◌≡◌, ℕ, true, cond, eqb, List, set, refl, ◌∙◌}
use Rattle.dynamic_storage.specs.Meaning.{after_asking}
use Rattle.dynamic_storage.specs.declared.condition.Condition.{Condition}
use Rattle.dynamic_storage.specs.declared.condition.Condition.TheVariants.{Absent, Forming, Ready, Broken, OtherVersion}
use Rattle.dynamic_storage.specs.declared.condition.Stage.TheVariants as stage
use Rattle.connection_words.specs.Soundness.{sound}
use Rattle.connection_ports.specs.Closing.{state_left, closed_words, closed_condition}

-- only a ready storage is sound
pub sound_ready : (k : Condition) (words : List ℕ) → sound k words ≡ true → k ≡ Ready
sound_ready Absent words e = cc
sound_ready Forming words e = cc
sound_ready Ready words e = refl
sound_ready Broken words e = cc
sound_ready OtherVersion words e = cc

module _ (bit left : ℕ) (k : Condition) (words : List ℕ) (good : sound k words ≡ true) (is : left ≡ state_left bit words) where
  pub words_left : (now : List ℕ) → now ≡ set words 0 left → now ≡ closed_words bit k words
  words_left now e = rw (good, ← is) e

  pub condition_left : (before after : Condition) → before ≡ k → after ≡ cond (eqb left 128) (after_asking before stage.Absent) before → after ≡ closed_condition bit k words
  condition_left before after e f = let ready = sound_ready k words good in f ∙ rw (e, good, ← is, ready)
