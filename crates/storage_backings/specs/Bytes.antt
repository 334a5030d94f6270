-- Words of 64 bits in memory, eight bytes each, the lowest first.
use Rattle.std.specs.Prelude.{ℕ, ◌+◌, ◌*◌, ◌/◌, List, map, length, drop, slice_index}
use Rattle.std.specs.List.{range_with_len}

-- the number that eight bytes make from a place on, the lowest byte first
abbrev pub little_at : List ℕ → ℕ → ℕ
little_at bytes place =
    slice_index bytes place + slice_index bytes (place + 1) * 256 + slice_index bytes (place + 2) * 65536 + slice_index bytes (place + 3) * 16777216 + slice_index bytes (place + 4) * 4294967296 + slice_index bytes (place + 5) * 1099511627776 + slice_index bytes (place + 6) * 281474976710656 + slice_index bytes (place + 7) * 72057594037927936

-- the words that bytes hold: the k-th stands in the eight bytes from 8 k on
unfoldable pub words_in : List ℕ → List ℕ
words_in bytes = map (λ k. little_at bytes (8 * k)) (range_with_len 0 (length bytes / 8))

-- the bytes at the end that make no word
unfoldable pub odd_bytes : List ℕ → List ℕ
odd_bytes bytes = drop (8 * (length bytes / 8)) bytes
