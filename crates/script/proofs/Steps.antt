-- One byte more of a number.
use Rattle.std.proofs.Common.{◌≡◌, ℕ, ◌+◌, ◌-◌, ◌*◌, ◌^◌, ◌<◌, ◌≤◌, Bool, true, false, cond, ltb, List, [], ◌∷◌, length, get_or, drop, Some, None, Option, refl, arith, MatchOption}
use Rattle.std.proofs.lemmas.List.{at_drop_more}
use Rattle.std.proofs.lemmas.Bool.{ltb-true, ltb-false}
use Rattle.std.proofs.lemmas.Bool.Decides.{nat_tests}
use Rattle.script.specs.Numbers.{is_digit, fitting, number_from, number_of}

-- a number too large stays so
pub too_large : (n : ℕ) (bs : List ℕ) → 2 ^ 64 ≤ n → number_from n bs ≡ None
too_large n [] h = grind (arith, nat_tests)
too_large n (b ∷ bs) h = either (is_digit b) (too_large (n * 10 + (b - 48)) bs (omega arith))
  where
    either : (d : Bool) → number_from (n * 10 + (b - 48)) bs ≡ None → cond d (number_from (n * 10 + (b - 48)) bs) None ≡ None
    either true e = e
    either false e = refl

-- one digit more, or none
pub digit_more : (n : ℕ) (bs : List ℕ) (i : ℕ) (r : Option ℕ) → i < length bs → r ≡ cond (is_digit (get_or bs i 0)) (fitting (n * 10 + (get_or bs i 0 - 48))) None
    → MatchOption r (number_from n (drop i bs) ≡ None) (λ m. (m < 2 ^ 64) × (number_from m (drop (i + 1) bs) ≡ number_from n (drop i bs)))
digit_more n bs i r l e =
    rw (e, at_drop_more (number_from n) bs i 0 l) (by_tests (is_digit (get_or bs i 0)) (n * 10 + (get_or bs i 0 - 48)))
  where
    by_size : (m : ℕ) (t : Bool) → ltb m (2 ^ 64) ≡ t → MatchOption (cond t (Some m) None) (number_from m (drop (i + 1) bs) ≡ None) (λ k. (k < 2 ^ 64) × (number_from k (drop (i + 1) bs) ≡ number_from m (drop (i + 1) bs)))
    by_size m true f = (ltb-true m (2 ^ 64) f, refl)
    by_size m false f = too_large m (drop (i + 1) bs) (ltb-false m (2 ^ 64) f)

    by_tests : (d : Bool) (m : ℕ) → MatchOption (cond d (fitting m) None) (cond d (number_from m (drop (i + 1) bs)) None ≡ None) (λ k. (k < 2 ^ 64) × (number_from k (drop (i + 1) bs) ≡ cond d (number_from m (drop (i + 1) bs)) None))
    by_tests true m = by_size m (ltb m (2 ^ 64)) refl
    by_tests false m = refl

pub number_of_some : (bs : List ℕ) → (length bs ≡ 0 → ⊥) → number_of bs ≡ number_from 0 bs
number_of_some [] h = absurd (h refl)
number_of_some (b ∷ bs) h = refl
