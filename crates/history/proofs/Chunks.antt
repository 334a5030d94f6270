-- Held chunks, by how often each is held.
use Rattle.std.proofs.Common.{◌≡◌, ℕ, zero, suc, ◌+◌, ◌/◌, ◌<◌, List, [], ◌∷◌, ◌++◌, map, length, get_or, refl, ap, ⊎_elim, arith}
use Rattle.std.specs.List.{ContainsAt, AllByRecursion}
use Rattle.std.proofs.ByRecursion.{All-append, All-map, All-get_or, All-weaker}
use Rattle.connection_words.specs.declared.settings.Settings.{Settings}
use Rattle.shm_allocator.specs.Offsets.{segment_of, offset_of}
use Rattle.history.specs.Books.{Books}
use Rattle.history.specs.Guarantee.{Chunk, Inside, chunk_of, held, held_chunks, NoneTwice}
use Rattle.history.proofs.Ledger.{Ledger, Fits, total, tally, hit, hit_yes, hit_cases}

pub tally_append : (size : ℕ → ℕ) (g i : ℕ) (xs ys : List ℕ) → tally size g i (xs ++ ys) ≡ tally size g i xs + tally size g i ys
tally_append size g i [] ys = omega arith
tally_append size g i (x ∷ xs) ys = omega (arith, tally_append size g i xs ys)

pub tally_held : (b : Books) (g i : ℕ) → tally b.size g i (held b) ≡ total b g i
tally_held b g i = omega (arith, tally_append b.size g i b.waiting (b.on_loan ++ b.returned), tally_append b.size g i b.on_loan b.returned)

module _ (b : Books) where
  hit_same : (g i v : ℕ) → chunk_of b v ≡ (g, i) → hit b.size g i v ≡ 1
  hit_same g i v e =
      let p : segment_of v ≡ g = ap (λ (x : Chunk). x.0) e in
      let q : offset_of v / b.size (segment_of v) ≡ i = ap (λ (x : Chunk). x.1) e in
      rw (← p, ← q) (hit_yes b.size v)

  -- a chunk that is counted is there
  pub has_chunk : (g i : ℕ) (xs : List ℕ) → 0 < tally b.size g i xs → ContainsAt (map (chunk_of b) xs) (g, i)
  has_chunk g i [] h = absurd (omega arith)
  has_chunk g i (x ∷ xs) h =
      ⊎_elim
      (λ (e : (g ≡ segment_of x) × (i ≡ offset_of x / b.size (segment_of x))). (0, omega arith, (λ d. rw (e.0, e.1) refl)))
      (λ (e : hit b.size g i x ≡ 0).
      let r : ContainsAt (map (chunk_of b) xs) (g, i) = has_chunk g i xs (omega arith) in
      (suc r.0, omega (arith, r.1), r.2))
      (hit_cases b.size g i x)

  -- a chunk that is there is counted
  pub counts_chunk : (g i : ℕ) (xs : List ℕ) (k : ℕ) (d : Chunk) → k < length (map (chunk_of b) xs) → get_or (map (chunk_of b) xs) k d ≡ (g, i) → 0 < tally b.size g i xs
  counts_chunk g i [] k d l e = absurd (omega arith)
  counts_chunk g i (x ∷ xs) zero d l e = omega (arith, hit_same g i x e)
  counts_chunk g i (x ∷ xs) (suc k) d l e = omega (arith, counts_chunk g i xs k d (omega arith) e)

  -- a chunk that is there twice is counted twice
  counts_twice : (g i : ℕ) (xs : List ℕ) (j k : ℕ) (d : Chunk) → j < k → k < length (map (chunk_of b) xs) → get_or (map (chunk_of b) xs) j d ≡ (g, i) → get_or (map (chunk_of b) xs) k d ≡ (g, i) → 1 < tally b.size g i xs
  counts_twice g i [] j k d l m e f = absurd (omega arith)
  counts_twice g i (x ∷ xs) j zero d l m e f = absurd (omega arith)
  counts_twice g i (x ∷ xs) zero (suc k) d l m e f = omega (arith, hit_same g i x e, counts_chunk g i xs k d (omega arith) f)
  counts_twice g i (x ∷ xs) (suc j) (suc k) d l m e f = omega (arith, counts_twice g i xs j k d (omega arith) (omega arith) e f)

  module _ (s : Settings) (o : Ledger s b) where
    all_fit : AllByRecursion (Fits s b.size) (held b)
    all_fit =
        All-append (Fits s b.size) b.waiting (b.on_loan ++ b.returned) o.waits
        (All-append (Fits s b.size) b.on_loan b.returned o.lent o.back)

    pub all_inside : AllByRecursion (Inside s) (held_chunks b)
    all_inside = All-map (Inside s) (chunk_of b) (held b) (All-weaker (Fits s b.size) (λ v. Inside s (chunk_of b v)) (λ v f. (f.segment, f.index)) (held b) all_fit)

    pub none_twice : NoneTwice (held_chunks b)
    none_twice j k d l m e =
        let x : Chunk = get_or (held_chunks b) k d in
        let there : Inside s (get_or (held_chunks b) k d) = All-get_or (Inside s) (held_chunks b) k d m all_inside in
        let two : 1 < tally b.size x.0 x.1 (held b) = counts_twice x.0 x.1 (held b) j k d l m e refl in
        omega (arith, two, tally_held b x.0 x.1, o.few x.0 x.1 there.0 there.1)
