-- The words of a connection that was just created.
use Rattle.std.specs.Prelude.{ℕ, ◌+◌, ◌-◌, ◌*◌, ◌%◌, cond, ◌&&◌, List, ◌++◌, map, drop, ◌==◌, nat_lt}
use Rattle.std.specs.List.{range_with_len}
use Rattle.connection_words.specs.declared.settings.Settings.{Settings}
use Rattle.connection_words.specs.Settings.{buffer, borrowed, samples, segments, channels, completions}
use Rattle.connection_words.specs.Places.{stride, needed}

abbrev pub overflow_word : Settings → ℕ
overflow_word s = cond s.enable_safe_overflow 1 0

-- the word at a place behind the header: the state at the first place of each channel, and 0 elsewhere
abbrev pub body_word : Settings → ℕ → ℕ → ℕ
body_word s state place =
    cond (nat_lt place (8 + channels s * stride s) && (place - 8) % stride s == 0) state 0

-- the word at a place below the number of words needed, where a port state and a state for all channels are asked for
abbrev pub fresh_word : Settings → ℕ → ℕ → ℕ → ℕ
fresh_word s state ports place =
    cond (place == 0) ports
    (cond (place == 1) (buffer s)
    (cond (place == 2) (borrowed s)
    (cond (place == 3) (samples s)
    (cond (place == 4) (segments s)
    (cond (place == 5) (channels s)
    (cond (place == 6) (overflow_word s)
    (cond (place == 7) (completions s) (body_word s state place))))))))

-- all words after a creation: those that are needed are fresh, and the words behind them stay
abbrev pub fresh_words : Settings → ℕ → ℕ → List ℕ → List ℕ
fresh_words s state ports words = map (fresh_word s state ports) (range_with_len 0 (needed s)) ++ drop (needed s) words
