-- What is known of the names as a whole, from a test of each row of the table.
use Rattle.std.proofs.Common.{◌≡◌, ℕ, ◌≤◌, Bool, true, cond, eqb, leb, List, [], ◌∷◌, length, codes, sym, refl, ap, ◌∙◌, subst, zero-le}
use Prim.Native.String.{String}
use Rattle.std.specs.List.{list_all}
use Rattle.std.specs.Str.{bytes_eq}
use Rattle.std.proofs.lemmas.Bool.{and_parts, cond_both, eqb-true, leb-true}
use Rattle.answers.specs.Names.{named, name_in, name_of}

-- what holds of the empty name, and of each row that passes a test, holds of the name of any number
by_rows : (P : ℕ → List ℕ → Type 0) (f : ℕ × String → Bool) → ((n : ℕ) → P n []) → ((row : ℕ × String) → f row ≡ true → P row.0 (codes row.1)) → (rows : List (ℕ × String)) → list_all f rows ≡ true → (n : ℕ) → P n (name_in rows n)
by_rows P f none one [] t n = none n
by_rows P f none one (row ∷ rows) t n =
    let ts = and_parts (f row) (list_all f rows) t in
    cond_both (eqb n row.0) (codes row.1) (name_in rows n) (P n)
    (λ e. subst (λ (m : ℕ). P m (codes row.1)) (sym (eqb-true n row.0 e)) (one row ts.0))
    (λ _. by_rows P f none one rows ts.1 n)

-- no name is longer than 47 bytes
pub fits : (n : ℕ) → length (name_of n) ≤ 47
unfolding name_of
fits n =
    by_rows (λ _ w. length w ≤ 47) (λ row. leb (length (codes row.1)) 47) (λ _. zero-le)
    (λ row t. leb-true (length (codes row.1)) 47 t)
    named refl n

-- the number of the first row with a name
abbrev number_in : List (ℕ × String) → List ℕ → ℕ
number_in [] w = 0
number_in (row ∷ rows) w = cond (bytes_eq w (codes row.1)) row.0 (number_in rows w)

-- a name leads back to its number
back : (n : ℕ) → (name_of n ≡ [] → ⊥) → number_in named (name_of n) ≡ n
unfolding name_of
back n =
    by_rows (λ m w. (w ≡ [] → ⊥) → number_in named w ≡ m) (λ row. eqb (number_in named (codes row.1)) row.0)
    (λ _ h. absurd (h refl))
    (λ row t _. eqb-true (number_in named (codes row.1)) row.0 t)
    named refl n

-- no two numbers have the same name, unless it is empty
pub differ : (m n : ℕ) → name_of m ≡ name_of n → (name_of m ≡ [] → ⊥) → m ≡ n
differ m n e h = sym (back m h) ∙ ap (λ (w : List ℕ). number_in named w) e ∙ back n (λ z. h (e ∙ z))
