-- A value is taken out of a list where it is first in it.
use Rattle.std.proofs.Common.{◌≡◌, ℕ, suc, ◌+◌, Bool, true, false, cond, eqb, ltb, List, [], ◌∷◌, length, Some, None, refl, ap, ◌∙◌, arith}
use Rattle.std.specs.List.{remove, position_or_len}
use Rattle.std.proofs.lemmas.Bool.Decides.{nat_tests}
use Rattle.history.specs.Books.{without}

-- where a value is first in a list
abbrev pub first : ℕ → List ℕ → ℕ
first v xs = position_or_len (λ x. eqb x v) xs

under : (b : Bool) (x : ℕ) (xs ys : List ℕ) → cond b (x ∷ xs) (x ∷ ys) ≡ x ∷ cond b xs ys
under true x xs ys = refl
under false x xs ys = refl

at_head : (v x : ℕ) (xs : List ℕ) (b : Bool) → eqb x v ≡ b → cond (ltb (first v xs) (length xs)) (remove xs (first v xs)) xs ≡ without v xs → cond (ltb (first v (x ∷ xs)) (length (x ∷ xs))) (remove (x ∷ xs) (first v (x ∷ xs))) (x ∷ xs) ≡ without v (x ∷ xs)
at_head v x xs true e rest = let same : eqb v x ≡ true = grind (arith, nat_tests) in let some : ltb 0 (length (x ∷ xs)) ≡ true = grind (arith, nat_tests) in rw (e, same, some) refl
at_head v x xs false e rest =
    let other : eqb v x ≡ false = grind (arith, nat_tests) in
    let next : 1 + first v xs ≡ suc (first v xs) = omega arith in
    let less : ltb (suc (first v xs)) (length (x ∷ xs)) ≡ ltb (first v xs) (length xs) = grind (arith, nat_tests) in
    rw (e, other, next, less) (under (ltb (first v xs) (length xs)) x (remove xs (first v xs)) xs ∙ ap (λ (ys : List ℕ). x ∷ ys) rest)

pub without_first : (v : ℕ) (xs : List ℕ) → cond (ltb (first v xs) (length xs)) (remove xs (first v xs)) xs ≡ without v xs
without_first v [] = refl
without_first v (x ∷ xs) = at_head v x xs (eqb x v) refl (without_first v xs)

found : (b : Bool) (i j : ℕ) (xs : List ℕ) → Some i ≡ cond b (Some j) None → remove xs i ≡ cond b (remove xs j) xs
found true i j xs e = let same : i ≡ j = cc in rw same refl
found false i j xs e = cc

-- the value is there, and where it is not
pub without_found : (v i : ℕ) (xs : List ℕ) → Some i ≡ cond (ltb (first v xs) (length xs)) (Some (first v xs)) None → remove xs i ≡ without v xs
without_found v i xs e = found (ltb (first v xs) (length xs)) i (first v xs) xs e ∙ without_first v xs

absent : (b : Bool) (j : ℕ) (xs ys : List ℕ) → None ≡ cond b (Some j) None → xs ≡ cond b ys xs
absent true j xs ys e = cc
absent false j xs ys e = refl

pub without_absent : (v : ℕ) (xs : List ℕ) → None ≡ cond (ltb (first v xs) (length xs)) (Some (first v xs)) None → xs ≡ without v xs
without_absent v xs e = absent (ltb (first v xs) (length xs)) (first v xs) xs (remove xs (first v xs)) e ∙ without_first v xs
