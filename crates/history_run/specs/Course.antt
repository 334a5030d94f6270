-- A list of calls, by what each leaves and what it answers.
use Rattle.std.specs.Prelude.{◌≡◌, List, [], ◌∷◌}

-- the state after calls, and their answers
abbrev pub end_of : {S C : Type 0} → (S → C → S) → S → List C → S
end_of next s [] = s
end_of next s (x ∷ xs) = end_of next (next s x) xs

abbrev pub answers_of : {S C A : Type 0} → (S → C → S) → (S → C → A) → S → List C → List A
answers_of next told s [] = []
answers_of next told s (x ∷ xs) = told s x ∷ answers_of next told (next s x) xs

-- calls lead from a state to another with these answers
pub record Course {S C A : Type 0} (next : S → C → S) (told : S → C → A) (s : S) (xs : List C) (answers : List A) (end : S) : Type 0 where
  pub ends : end ≡ end_of next s xs
  pub answered : answers ≡ answers_of next told s xs
