-- Two calls, one after the other, that change words alone.
use Rattle.std.proofs.Common.{◌≡◌, ℕ, List, ◌∙◌}
use Rattle.dynamic_storage.specs.declared.DynamicStorage.{Ghosts}
use Rattle.dynamic_storage.specs.Changes.{WordsBecome}

pub in_turn : {S : Type 0} {of : Ghosts S} {x y z : S} {now next last : List ℕ} → WordsBecome of x y now → WordsBecome of y z next → of.words z ≡ last → WordsBecome of x z last
in_turn first second is =
    record {
      words = is;
      condition = second.condition ∙ first.condition;
      outside = second.outside ∙ first.outside;
    }
