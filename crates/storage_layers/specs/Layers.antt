-- What the layers show of the words below them.
use Rattle.std.specs.Prelude.{ℕ, ◌+◌, ◌*◌, ◌/◌, ◌%◌, cond, ◌&&◌, List, [], ◌∷◌, length, take, drop, Some, None, Option, nat_lt}
use Rattle.dynamic_storage.specs.Codes.{fixed_code}
use Rattle.dynamic_storage.specs.declared.condition.Condition.{Condition}
use Rattle.dynamic_storage.specs.declared.condition.Condition.TheVariants.{Absent, Forming, Ready, Broken, OtherVersion}

-- the words of a window at a place: as many as count of those behind its code, or as many as there are
abbrev pub framed : List ℕ → ℕ → ℕ → List ℕ
framed words place count = take count (drop (place + 1) words)

-- where the window's word k stands below, if there is one
abbrev pub framed_at : List ℕ → ℕ → ℕ → ℕ → Option ℕ
framed_at words place count k = cond (nat_lt k count && nat_lt (place + 1 + k) (length words)) (Some (place + 1 + k)) None

-- a number for each condition
abbrev pub numbered : Condition → ℕ
numbered Absent = 0
numbered Forming = 1
numbered Ready = 2
numbered Broken = 3
numbered OtherVersion = 4

-- all that a window leaves alone: the words before it, a code that no call may replace, the words behind it,
-- the condition below, and what lies outside the storage below
abbrev pub around_window : List ℕ → ℕ → ℕ → Condition → List (List ℕ) → List (List ℕ)
around_window words place count below outside =
    take place words ∷ fixed_code words place ∷ drop (place + 1 + count) words ∷ (numbered below ∷ []) ∷ outside

-- a word with its eight bytes in reverse order
unfoldable pub reversed : ℕ → ℕ
reversed word =
    word % 256 * 72057594037927936 + word / 256 % 256 * 281474976710656 + word / 65536 % 256 * 1099511627776 + word / 16777216 % 256 * 4294967296 + word / 4294967296 % 256 * 16777216 + word / 1099511627776 % 256 * 65536 + word / 281474976710656 % 256 * 256 + word / 72057594037927936 % 256
