-- What a call leaves of a storage.
use Rattle.std.specs.Prelude.{◌≡◌, ℕ, List}
use Rattle.dynamic_storage.specs.declared.DynamicStorage.{Ghosts}

-- the words became these; the condition and the rest of the memory are as they were
pub record WordsBecome {S : Type 0} (of : Ghosts S) (before after : S) (to : List ℕ) : Type 0 where
  pub words : of.words after ≡ to
  pub condition : of.condition after ≡ of.condition before
  pub outside : of.outside after ≡ of.outside before
