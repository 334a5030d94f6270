-- Words with their bytes in reverse order.
use Rattle.std.proofs.Common.{◌≡◌, ℕ, zero, suc, ◌^◌, ◌<◌, List, get_or, refl, map, set, Option, Some, None, ap, ◌∙◌, arith}
use Rattle.std.proofs.lemmas.List.{length-map, get_or-map, map-set}
use Rattle.std.proofs.lemmas.Nat.{be_bytes_8, from_le_bytes-to_le_bytes_8}
use Rattle.std.specs.Int.{w64, byte_at, bytes_low_first, to_le_bytes, to_be_bytes}
use Rattle.std.proofs.lemmas.Bool.Decides.{nat_tests}
use Rattle.std.specs.Option.{MatchOption, IsSomeAnd}
use Rattle.storage_layers.specs.Layers.{reversed}
use Rattle.dynamic_storage.specs.Meaning.{word_at}

byte_below : (i n : ℕ) → byte_at i n < 256
byte_below zero n = omega arith
byte_below (suc i) n = omega arith

bytes_below : (i k n j : ℕ) → get_or (bytes_low_first i k n) j 0 < 256
bytes_below i zero n j = omega arith
bytes_below i (suc k) n zero = byte_below i n
bytes_below i (suc k) n (suc j) = bytes_below (suc i) k n j

pub reversed_reversed : (word : ℕ) → word < 2 ^ 64 → reversed (reversed word) ≡ word
unfolding reversed
reversed_reversed word fit =
    let same : to_be_bytes w64 (reversed word) ≡ to_le_bytes w64 word = be_bytes_8 (to_le_bytes w64 word) (reversed word) refl (bytes_below 0 8 word) refl in
    let at : (i : ℕ) → get_or (to_be_bytes w64 (reversed word)) i 0 ≡ get_or (to_le_bytes w64 word) i 0 = λ i. ap (λ l. get_or l i 0) same in
    rw (at 0, at 1, at 2, at 3, at 4, at 5, at 6, at 7) (omega (arith, from_le_bytes-to_le_bytes_8 word fit))

pub map_written : (words : List ℕ) (place word : ℕ) → word < 2 ^ 64 → map reversed (set words place (reversed word)) ≡ set (map reversed words) place word
map_written words place word fit = map-set reversed words place (reversed word) ∙ ap (λ w. set (map reversed words) place w) (reversed_reversed word fit)

-- the word at a place, reversed, is the word of the reversed words
pub read_reversed : (words : List ℕ) (place : ℕ) (found turned : Option ℕ) → found ≡ word_at words place → MatchOption found (turned ≡ None) (λ word. IsSomeAnd turned (λ w. w ≡ reversed word)) → turned ≡ word_at (map reversed words) place
read_reversed words place None turned e m = grind (arith, nat_tests, length-map)
read_reversed words place (Some word) None e m = absurd m
read_reversed words place (Some word) (Some w) e m = grind (arith, nat_tests, length-map, get_or-map)
