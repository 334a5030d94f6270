use Rattle.std.specs.Prelude.{◌≡◌, ℕ, List, Ok, Err, Result}
use Rattle.script.specs.declared.words.Words.{Words}
use Rattle.script.specs.declared.call.Expected.{Expected}
use Rattle.script.specs.Tokens.{tokens}
use Rattle.script.specs.Grammar.{Reader}

-- the words that are still to come
abbrev pub ahead : Words → List (List ℕ)
ahead w = tokens w.rest.now

-- what p reads of the words before, with the words after it, or why it reads nothing
abbrev pub Reads : {A : Type 0} → Reader A → Words → Words → Result A Expected → Type 0
Reads p before after (Ok a) = p (ahead before) ≡ Ok (a, ahead after)
Reads p before after (Err e) = p (ahead before) ≡ Err e
