-- The entries of a queue after a push and after a pop.
use Rattle.std.proofs.Common.{◌≡◌, ℕ, zero, suc, ◌+◌, ◌-◌, ◌*◌, ◌/◌, ◌%◌, ◌<◌, ◌≤◌, true, ◌≢◌, List, [], ◌∷◌, ◌++◌, map, length, get_or, set, sym, refl, ap, ◌∙◌, inl, inr, ⊎_elim, zero-add, arith}
use native.Mathlib.Nat.{mod-add-mod}
use Rattle.std.specs.List.{range_with_len}
use Rattle.std.proofs.lemmas.Bool.Decides.{nat_tests}
use Rattle.std.proofs.lemmas.Nat.{mod_below, div-add-mod'}
use Rattle.std.proofs.lemmas.Bool.{cases_order, and_from, lt-ltb, le-leb}
use Rattle.std.proofs.lemmas.List.{get_or-set_same, get_or-set_other, length-set}
use Rattle.std.proofs.lemmas.List.FromFn.{length-map-range_with_len, get_or-map-range_with_len, map-range_with_len_more, fill_by_all}
use Rattle.connection_words.specs.declared.ring.Ring.{Ring}
use Rattle.connection_words.specs.Queues.{start, count, slot_of, entry, entries, queue_sound, pushed, popped, has_room, has_entry, Belongs, Placed}
use Rattle.connection_words.specs.Laws.{Within}
use Rattle.connection_words.proofs.Apart.{rows_apart}

-- numbers that are less than n apart have different remainders
remainders_differ : (n x y : ℕ) → x < y → y < x + n → x % n ≢ y % n
remainders_differ n x y low high e =
    let of-x = div-add-mod' x n in
    let of-y = div-add-mod' y n in
    ⊎_elim
    (λ (same : x / n ≡ y / n). let rows : x / n * n ≡ y / n * n = ap (λ (k : ℕ). k * n) same in omega arith)
    (⊎_elim
    (λ (l : x / n < y / n). omega (arith, rows_apart n (x / n) (y / n) l))
    (λ (l : y / n < x / n). omega (arith, rows_apart n (y / n) (x / n) l)))
    (cases_order (x / n) (y / n))

-- a read away from two writes
read_away : (words : List ℕ) (i j k a b : ℕ) → k ≢ i → k ≢ j → get_or (set (set words i a) j b) k 0 ≡ get_or words k 0
read_away words i j k a b p q = get_or-set_other (set words i a) j k b 0 q ∙ get_or-set_other words i k a 0 p

-- lists by functions of the index: the functions agree, and the first apart from the rest
map_agrees : (f g : ℕ → ℕ) (n : ℕ) → ((k : ℕ) → k < n → f k ≡ g k) → map f (range_with_len 0 n) ≡ map g (range_with_len 0 n)
map_agrees f g n h =
    fill_by_all g (map f (range_with_len 0 n)) n 0 (length-map-range_with_len f 0 n)
    (λ k l. get_or-map-range_with_len f 0 n k k 0 l (zero-add k) ∙ h k l)

map_shifted : (f : ℕ → ℕ) (a m : ℕ) → map f (range_with_len (a + 1) m) ≡ map (λ k. f (k + 1)) (range_with_len a m)
map_shifted f a zero = refl
map_shifted f a (suc m) = ap (λ (t : List ℕ). f (a + 1) ∷ t) (map_shifted f (a + 1) m)

map_first : (f : ℕ → ℕ) (n : ℕ) → 0 < n → map f (range_with_len 0 n) ≡ f 0 ∷ map (λ k. f (k + 1)) (range_with_len 0 (n - 1))
map_first f zero h = absurd (omega arith)
map_first f (suc m) h =
    ap (λ (t : List ℕ). f 0 ∷ t) (map_shifted f 0 m ∙ ap (λ (t : ℕ). map (λ k. f (k + 1)) (range_with_len 0 t)) (omega arith))

-- the entries, where the start and the count are known
entries_from : (words : List ℕ) (q : Ring) (st n : ℕ) → start words q ≡ st → count words q ≡ n → entries words q ≡ map (λ k. get_or words (q.slots + (st + k) % q.capacity) 0) (range_with_len 0 n)
entries_from words q st n e f = rw (e, f) refl

sound_from : (words : List ℕ) (q : Ring) → start words q < q.capacity → count words q ≤ q.capacity → queue_sound words q ≡ true
sound_from words q s n = and_from _ _ (lt-ltb _ _ s) (le-leb _ _ n)

module _ (words : List ℕ) (q : Ring) (placed : Placed q) where
  slot_below : (k : ℕ) → (start words q + k) % q.capacity < q.capacity
  slot_below k = mod_below (start words q + k) q.capacity placed.2

  pub push_only : (v p : ℕ) → (Belongs q p → ⊥) → get_or (pushed words q v) p 0 ≡ get_or words p 0
  push_only v p free =
      let below = slot_below (count words q) in
      read_away words (slot_of words q (count words q)) (q.heads + 1) p v (count words q + 1)
      (λ e. free (inr (omega arith, omega arith)))
      (λ e. free (inl (inr e)))

  pub pop_only : (p : ℕ) → (Belongs q p → ⊥) → get_or (popped words q) p 0 ≡ get_or words p 0
  pop_only p free =
      read_away words q.heads (q.heads + 1) p ((start words q + 1) % q.capacity) (count words q - 1)
      (λ e. free (inl (inl e)))
      (λ e. free (inl (inr e)))

  pub entries_depend : (others : List ℕ) → ((p : ℕ) → Belongs q p → get_or others p 0 ≡ get_or words p 0) → entries others q ≡ entries words q
  entries_depend others same =
      entries_from others q (start words q) (count words q) (same q.heads (inl (inl refl))) (same (q.heads + 1) (inl (inr refl)))
      ∙ map_agrees (λ k. get_or others (slot_of words q k) 0) (λ k. entry words q k) (count words q)
      (λ k l. let below = slot_below k in same (slot_of words q k) (inr (omega arith, omega arith)))

pub entries_number : (words : List ℕ) (q : Ring) → length (entries words q) ≡ count words q
entries_number words q = length-map-range_with_len (λ k. entry words q k) 0 (count words q)

module _ (words : List ℕ) (q : Ring) (within : Within words q) where
  pub push_count : (v : ℕ) → count (pushed words q v) q ≡ count words q + 1
  push_count v =
      let h : q.heads + 1 < length (set words (slot_of words q (count words q)) v) = simp length-set (omega arith) in
      get_or-set_same (set words (slot_of words q (count words q)) v) (q.heads + 1) (count words q + 1) 0 h

  push_start : (v : ℕ) → start (pushed words q v) q ≡ start words q
  push_start v =
      read_away words (slot_of words q (count words q)) (q.heads + 1) q.heads v (count words q + 1) (omega arith) (omega arith)

  push_keeps : (v k : ℕ) → k < count words q → count words q < q.capacity → get_or (pushed words q v) (slot_of words q k) 0 ≡ entry words q k
  push_keeps v k l room =
      let ne = remainders_differ q.capacity (start words q + k) (start words q + count words q) (omega arith) (omega arith) in
      read_away words (slot_of words q (count words q)) (q.heads + 1) (slot_of words q k) v (count words q + 1)
      (λ e. ne (omega arith))
      (omega arith)

  push_puts : (v : ℕ) → get_or (pushed words q v) (slot_of words q (count words q)) 0 ≡ v
  push_puts v =
      let below = slot_below words q within.placed (count words q) in
      get_or-set_other (set words (slot_of words q (count words q)) v) (q.heads + 1) (slot_of words q (count words q)) (count words q + 1) 0 (omega arith)
      ∙ get_or-set_same words (slot_of words q (count words q)) v 0 (omega arith)

  pub push_appends : (v : ℕ) → has_room words q ≡ true → entries (pushed words q v) q ≡ entries words q ++ v ∷ []
  push_appends v e =
      let room : count words q < q.capacity = grind (arith, nat_tests) in
      let after : ℕ → ℕ = λ k. get_or (pushed words q v) (slot_of words q k) 0 in
      entries_from (pushed words q v) q (start words q) (count words q + 1) (push_start v) (push_count v)
      ∙ map-range_with_len_more after 0 (count words q) (count words q) (zero-add (count words q))
      ∙ ap (λ (es : List ℕ). es ++ after (count words q) ∷ [])
      (map_agrees after (λ k. entry words q k) (count words q) (λ k l. push_keeps v k l room))
      ∙ ap (λ (x : ℕ). entries words q ++ x ∷ []) (push_puts v)

  pub push_sound : (v : ℕ) → has_room words q ≡ true → queue_sound (pushed words q v) q ≡ true
  push_sound v e =
      let low : start words q < q.capacity = grind (arith, nat_tests) in
      let room : count words q < q.capacity = grind (arith, nat_tests) in
      sound_from (pushed words q v) q (omega (arith, push_start v)) (omega (arith, push_count v))

  pop_start : start (popped words q) q ≡ (start words q + 1) % q.capacity
  pop_start =
      get_or-set_other (set words q.heads ((start words q + 1) % q.capacity)) (q.heads + 1) q.heads (count words q - 1) 0 (omega arith)
      ∙ get_or-set_same words q.heads ((start words q + 1) % q.capacity) 0 (omega arith)

  pop_less : count (popped words q) q ≡ count words q - 1
  pop_less =
      let h : q.heads + 1 < length (set words q.heads ((start words q + 1) % q.capacity)) = simp length-set (omega arith) in
      get_or-set_same (set words q.heads ((start words q + 1) % q.capacity)) (q.heads + 1) (count words q - 1) 0 h

  pub pop_count : has_entry words q ≡ true → count (popped words q) q + 1 ≡ count words q
  pop_count e = let some : 0 < count words q = grind (arith, nat_tests) in omega (arith, pop_less)

  pub pop_sound : has_entry words q ≡ true → queue_sound (popped words q) q ≡ true
  pop_sound e =
      let high : count words q ≤ q.capacity = grind (arith, nat_tests) in
      let below = slot_below words q within.placed 1 in
      sound_from (popped words q) q (omega (arith, pop_start)) (omega (arith, pop_less))

  -- entry k after a pop is entry k + 1 before
  pop_moves : (k : ℕ) → get_or (popped words q) (q.slots + ((start words q + 1) % q.capacity + k) % q.capacity) 0 ≡ entry words q (k + 1)
  pop_moves k =
      let e : ((start words q + 1) % q.capacity + k) % q.capacity ≡ (start words q + (k + 1)) % q.capacity =
      mod-add-mod (start words q + 1) q.capacity k ∙ ap (λ (n : ℕ). n % q.capacity) (omega arith) in
      ap (λ (n : ℕ). get_or (popped words q) (q.slots + n) 0) e
      ∙ read_away words q.heads (q.heads + 1) (slot_of words q (k + 1)) ((start words q + 1) % q.capacity) (count words q - 1) (omega arith) (omega arith)

  pub pop_takes : has_entry words q ≡ true → entries words q ≡ entry words q 0 ∷ entries (popped words q) q
  pop_takes e =
      let some : 0 < count words q = grind (arith, nat_tests) in
      map_first (λ k. entry words q k) (count words q) some
      ∙ ap (λ (es : List ℕ). entry words q 0 ∷ es)
      (map_agrees (λ k. entry words q (k + 1)) (λ k. get_or (popped words q) (q.slots + ((start words q + 1) % q.capacity + k) % q.capacity) 0) (count words q - 1) (λ k l. sym (pop_moves k))
      ∙ sym (entries_from (popped words q) q ((start words q + 1) % q.capacity) (count words q - 1) pop_start pop_less))
