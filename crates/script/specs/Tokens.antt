use Rattle.std.specs.Prelude.{ℕ, Bool, cond, ◌||◌, List, [], ◌∷◌, ◌++◌, ◌==◌}

-- a space, a tab or a carriage return
abbrev pub blank : ℕ → Bool
blank b = b == 32 || (b == 9 || b == 13)

-- the word w, unless it is empty, and then the words ws
abbrev pub with_word : List ℕ → List (List ℕ) → List (List ℕ)
with_word [] ws = ws
with_word (b ∷ w) ws = (b ∷ w) ∷ ws

-- the words of a line after its part w of a word is read: a '#' ends the line, a blank ends the word
abbrev pub words_after : List ℕ → List ℕ → List (List ℕ)
words_after w [] = with_word w []
words_after w (b ∷ bs) = cond (b == 35) (with_word w []) (cond (blank b) (with_word w (words_after [] bs)) (words_after (w ++ b ∷ []) bs))

-- the words of a line
abbrev pub tokens : List ℕ → List (List ℕ)
tokens line = words_after [] line
