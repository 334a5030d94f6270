use Rattle.std.specs.Prelude.{ℕ, cond, List, [], ◌∷◌, ◌++◌, ◌==◌}
use Rattle.script.specs.Tokens.{with_word}

-- the lines of a text after its part l of a line is read: a line feed ends a line, and so does the end of the text
abbrev pub lines_after : List ℕ → List ℕ → List (List ℕ)
lines_after l [] = with_word l []
lines_after l (b ∷ bs) = cond (b == 10) (l ∷ lines_after [] bs) (lines_after (l ++ b ∷ []) bs)

-- the lines of a text
abbrev pub lines_of : List ℕ → List (List ℕ)
lines_of text = lines_after [] text
