-- Marks of chunks, and changing one named mark into another.
use Rattle.std.specs.Prelude.{ℕ, Bool, cond, not, List, Some, None, Option, ◌==◌, slice_index, slice_set}
use Rattle.connection_words.specs.declared.settings.Settings.{Settings}
use Rattle.connection_words.specs.Chunks.{chunk_mark}
use Rattle.zero_copy_connection.specs.declared.mark.Mark.{Mark}
use Rattle.zero_copy_connection.specs.declared.mark.Mark.TheVariants.{Free, Used}

-- the word that is written for a mark
abbrev pub mark_word : Mark → ℕ
mark_word Free = 0
mark_word Used = 1

-- whether a word is a mark: 0 is free, any other used
abbrev pub is_mark : Mark → ℕ → Bool
is_mark Free word = word == 0
is_mark Used word = not (word == 0)

-- the words after the mark at a place is changed, if it is the mark that it should be
abbrev pub changed_at : List ℕ → Mark → Mark → Option ℕ → Option (List ℕ)
changed_at words from to (Some place) = cond (is_mark from (slice_index words place)) (Some (slice_set words place (mark_word to))) None
changed_at words from to None = None

-- the words after the mark of the chunk that a value names is changed from one mark to another; None where the value
-- names no chunk of the channel, or its chunk has another mark
abbrev pub mark_changed : List ℕ → Settings → ℕ → ℕ → Mark → Mark → Option (List ℕ)
mark_changed words s c v from to = changed_at words from to (chunk_mark words s c v)
