-- Words in bytes: their number, each of them, and what a write of eight bytes leaves.
use Rattle.std.proofs.Common.{◌≡◌, ℕ, ◌+◌, ◌*◌, ◌/◌, ◌^◌, ◌<◌, ◌≤◌, ◌⊎◌, List, length, get_or, take, drop, set, zero, suc, refl, sym, ap, ◌∙◌, inl, inr, ⊎_elim, add-zero, zero-mul, arith, rules}
use Rattle.std.proofs.lemmas.List.FromFn.{length-map-range_with_len, get_or-map-range_with_len}
use borrow.Rule.Slice.PartMut.{put_mid}
use Rattle.std.proofs.lemmas.List.{places, ext_get_or, length-set, get_or-set_same, get_or-set_other, get_or-take, get_or-drop, drop-drop}
use Rattle.std.proofs.lemmas.Slice.{drop-put_mid}
use Rattle.std.specs.Simd.{first_chunks}
use Rattle.std.specs.Int.{w64, to_le_bytes}
use Rattle.std.proofs.lemmas.Nat.{from_le_bytes-to_le_bytes_8}
use Rattle.storage_backings.specs.Bytes.{little_at, words_in, odd_bytes}

pub length_words : (bytes : List ℕ) → length (words_in bytes) ≡ length bytes / 8
unfolding words_in
length_words bytes = length-map-range_with_len (λ k. little_at bytes (8 * k)) 0 (length bytes / 8)

pub word_is : (bytes : List ℕ) (k : ℕ) → k < length bytes / 8 → get_or (words_in bytes) k 0 ≡ little_at bytes (8 * k)
unfolding words_in
word_is bytes k h = get_or-map-range_with_len (λ k. little_at bytes (8 * k)) 0 (length bytes / 8) k k 0 h (omega arith)

chunk_is : (n m k : ℕ) (xs other : List ℕ) → k < m → get_or (first_chunks n m xs) k other ≡ take n (drop (k * n) xs)
chunk_is n zero k xs other h = absurd (omega arith)
chunk_is n (suc m) zero xs other h = rw zero-mul refl
chunk_is n (suc m) (suc k) xs other h =
    chunk_is n m k (drop n xs) other (omega arith) ∙ ap (take n) (drop-drop (k * n) n xs ∙ ap (λ i. drop i xs) (omega arith))

-- k stands for 8 here and below, since a numeral would compute the list apart
little_taken : (xs : List ℕ) (p k : ℕ) → k ≡ 8 → little_at (take k (drop p xs)) 0 ≡ little_at xs p
little_taken xs p k e =
    let at : (i : ℕ) → i < k → get_or (take k (drop p xs)) i 0 ≡ get_or xs (p + i) 0 = λ i h. get_or-take k (drop p xs) i 0 h ∙ get_or-drop p xs i 0 in
    let at0 : get_or (take k (drop p xs)) 0 0 ≡ get_or xs p 0 = rw add-zero at (at 0 (omega arith)) in
    rw (at0, at 1 (omega arith), at 2 (omega arith), at 3 (omega arith), at 4 (omega arith), at 5 (omega arith), at 6 (omega arith), at 7 (omega arith))

-- a chunk of eight bytes makes the word at its index
pub chunk_word : (bytes chunk : List ℕ) (chunks : List (List ℕ)) (k : ℕ) → k < length bytes / 8 → chunks ≡ first_chunks 8 (length bytes / 8) bytes → chunk ≡ get_or chunks k chunk → little_at chunk 0 ≡ get_or (words_in bytes) k 0
chunk_word bytes chunk chunks k h e at =
    let taken : chunk ≡ take 8 (drop (k * 8) bytes) = at ∙ (ap (λ l. get_or l k chunk) e ∙ chunk_is 8 (length bytes / 8) k bytes chunk h) in
    ap (λ l. little_at l 0) taken ∙ (little_taken bytes (k * 8) 8 refl ∙ (ap (little_at bytes) (omega arith) ∙ sym (word_is bytes k h)))

module _ (a k : ℕ) (xs ys : List ℕ) (inner : a + k ≤ length xs) (eight : length ys ≡ k) where
  abbrev after : List ℕ
  after = put_mid a k xs ys

  pub length_after : length after ≡ length xs
  length_after = let le : a ≤ length xs = omega arith in search (rules, places)

  pub get_d_before : (i : ℕ) → i < a → get_or after i 0 ≡ get_or xs i 0
  get_d_before i h = grind (arith, places)

  pub get_d_here : (i : ℕ) → i < k → get_or after (a + i) 0 ≡ get_or ys i 0
  get_d_here i h = grind (arith, places)

  pub get_d_behind : (i : ℕ) → a + k ≤ i → get_or after i 0 ≡ get_or xs i 0
  get_d_behind i h = grind (arith, places)

  pub drop_behind : (n : ℕ) → a + k ≤ n → drop n after ≡ drop n xs
  drop_behind n h = drop-put_mid a k xs ys n h (omega arith) eight

  -- a number made of bytes of which none was written
  pub little_apart : (p : ℕ) → (p + 8 ≤ a) ⊎ (a + k ≤ p) → little_at after p ≡ little_at xs p
  little_apart p (inl h) =
      rw (get_d_before p (omega arith), get_d_before (p + 1) (omega arith), get_d_before (p + 2) (omega arith), get_d_before (p + 3) (omega arith), get_d_before (p + 4) (omega arith), get_d_before (p + 5) (omega arith), get_d_before (p + 6) (omega arith), get_d_before (p + 7) (omega arith))
  little_apart p (inr h) =
      rw (get_d_behind p (omega arith), get_d_behind (p + 1) (omega arith), get_d_behind (p + 2) (omega arith), get_d_behind (p + 3) (omega arith), get_d_behind (p + 4) (omega arith), get_d_behind (p + 5) (omega arith), get_d_behind (p + 6) (omega arith), get_d_behind (p + 7) (omega arith))

  -- the number made of the bytes that were written
  pub little_here : k ≡ 8 → little_at after a ≡ little_at ys 0
  little_here h =
      let e0 : get_or after a 0 ≡ get_or ys 0 0 = rw add-zero at (get_d_here 0 (omega arith)) in
      rw (e0, get_d_here 1 (omega arith), get_d_here 2 (omega arith), get_d_here 3 (omega arith), get_d_here 4 (omega arith), get_d_here 5 (omega arith), get_d_here 6 (omega arith), get_d_here 7 (omega arith))

apart_or_same : (j i : ℕ) → ((j < i) ⊎ (i < j)) ⊎ (j ≡ i)
apart_or_same j i = grind arith

-- the eight bytes of a word are written
module _ (xs ys : List ℕ) (i w k : ℕ) (h : i < length (words_in xs)) (e : k ≡ 8) (y : ys ≡ to_le_bytes w64 w) (fit : w < 2 ^ 64) where
  abbrev stored : List ℕ
  stored = put_mid (8 * i) k xs ys

  inner : 8 * i + k ≤ length xs
  inner = let l = length_words xs in omega arith

  eight : length ys ≡ k
  eight = ap length y ∙ sym e

  same : length stored ≡ length xs
  same = length_after (8 * i) k xs ys inner eight

  word_here : get_or (words_in stored) i 0 ≡ w
  word_here =
      word_is stored i (rw same (omega (arith, inner))) ∙ (little_here (8 * i) k xs ys inner eight e ∙ (ap (λ l. little_at l 0) y ∙ from_le_bytes-to_le_bytes_8 w fit))

  word_apart : (j : ℕ) → j < length xs / 8 → (j < i) ⊎ (i < j) → get_or (words_in stored) j 0 ≡ get_or (words_in xs) j 0
  word_apart j l ne =
      let apart : (8 * j + 8 ≤ 8 * i) ⊎ (8 * i + k ≤ 8 * j) = ⊎_elim (λ lt. inl (omega arith)) (λ lt. inr (omega arith)) ne in
      word_is stored j (rw same l) ∙ (little_apart (8 * i) k xs ys inner eight (8 * j) apart ∙ sym (word_is xs j l))

  word_after : (j : ℕ) → j < length (words_in stored) → ((j < i) ⊎ (i < j)) ⊎ (j ≡ i) → get_or (words_in stored) j 0 ≡ get_or (set (words_in xs) i w) j 0
  word_after j l (inr e) = rw (e, word_here) (sym (get_or-set_same (words_in xs) i w 0 h))
  word_after j l (inl ne) =
      let below : j < length xs / 8 = rw (← same) (omega (arith, length_words stored)) in
      word_apart j below ne ∙ sym (get_or-set_other (words_in xs) i j w 0 (λ e. ⊎_elim (λ lt. omega arith) (λ lt. omega arith) ne))

  pub words_put : words_in stored ≡ set (words_in xs) i w
  words_put =
      ext_get_or 0 (words_in stored) (set (words_in xs) i w) (length_words stored ∙ (ap (λ n. n / 8) same ∙ (sym (length_words xs) ∙ sym (length-set (words_in xs) i w)))) (λ j l. word_after j l (apart_or_same j i))

  pub odd_put : odd_bytes stored ≡ odd_bytes xs
  unfolding odd_bytes
  odd_put =
      let l = length_words xs in
      rw same (drop_behind (8 * i) k xs ys inner eight (8 * (length xs / 8)) (omega arith))
