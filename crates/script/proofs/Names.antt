-- A word that is not a name.
use Rattle.std.proofs.Common.{◌≡◌, ℕ, false, List}
use Rattle.std.specs.Str.{bytes_eq}
use Rattle.std.proofs.lemmas.Bool.{false_from_ne_true}
use Rattle.std.proofs.lemmas.Slice.Eq.{bytes_eq-Decides}

pub not_name : (k p : List ℕ) → (k ≡ p → ⊥) → bytes_eq k p ≡ false
not_name k p h = false_from_ne_true (bytes_eq k p) (λ e. h ((bytes_eq-Decides k p).0 e))
