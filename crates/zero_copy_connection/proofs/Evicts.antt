-- A value joins a full queue: the oldest leaves, and then there is room.
use Rattle.std.proofs.Common.{◌≡◌, ℕ, ◌+◌, ◌-◌, ◌%◌, ◌<◌, ◌≤◌, true, cond, ltb, leb, List, length, set, Some, None, Option, ap, ◌∙◌, ⊎_elim, arith}
use Rattle.std.proofs.lemmas.Nat.{mod_below}
use Rattle.std.proofs.lemmas.Bool.{cond-true, and_parts, and_from, lt-ltb, le-leb, leb-true, cases_lt}
use Rattle.std.proofs.lemmas.List.{get_or-set_same, get_or-set_other, get_or_past, length-set}
use Rattle.connection_words.specs.declared.settings.Settings.{Settings}
use Rattle.connection_words.specs.declared.ring.Ring.{Ring}
use Rattle.connection_words.specs.Places.{submission_of}
use Rattle.connection_words.specs.Queues.{start, count, entry, queue_sound, has_entry, has_room, pushed, popped, Placed}
use Rattle.zero_copy_connection.specs.Sending.{is_full, oldest, queued}

module _ (words : List ℕ) (q : Ring) (placed : Placed q) (good : queue_sound words q ≡ true) (high : q.capacity ≤ count words q) where
  some_waits : has_entry words q ≡ true
  some_waits = and_from _ _ good (lt-ltb 0 (count words q) (omega arith))

  counted : q.heads + 1 < length words
  counted =
      ⊎_elim
      (λ (l : q.heads + 1 < length words). l)
      (λ (l : length words ≤ q.heads + 1). absurd (omega (arith, get_or_past words (q.heads + 1) 0 l)))
      (cases_lt (q.heads + 1) (length words))

  room_left : has_room (popped words q) q ≡ true
  room_left =
      let moved : List ℕ = set words q.heads ((start words q + 1) % q.capacity) in
      let inside = counted in
      let few : count words q ≤ q.capacity = leb-true (count words q) q.capacity (and_parts (ltb (start words q) q.capacity) (leb (count words q) q.capacity) good).1 in
      let below = mod_below (start words q + 1) q.capacity placed.2 in
      let start_is : start (popped words q) q ≡ (start words q + 1) % q.capacity =
      get_or-set_other moved (q.heads + 1) q.heads (count words q - 1) 0 (omega arith)
      ∙ get_or-set_same words q.heads ((start words q + 1) % q.capacity) 0 (omega arith) in
      let in_moved : q.heads + 1 < length moved = simp length-set (omega arith) in
      let count_is : count (popped words q) q ≡ count words q - 1 = get_or-set_same moved (q.heads + 1) (count words q - 1) 0 in_moved in
      let low : start (popped words q) q < q.capacity = omega arith in
      let less : count (popped words q) q < q.capacity = omega arith in
      and_from _ _ (and_from _ _ (lt-ltb (start (popped words q) q) q.capacity low) (le-leb (count (popped words q) q) q.capacity (omega arith))) (lt-ltb (count (popped words q) q) q.capacity less)

module _ (words now next : List ℕ) (s : Settings) (c v : ℕ) (q : Ring) (placed : Placed q) (queue : q ≡ submission_of s c)
    (sound : queue_sound words (submission_of s c) ≡ true) (full : is_full words s c ≡ true) where
  good : queue_sound words q ≡ true
  good = ap (queue_sound words) queue ∙ sound

  high : q.capacity ≤ count words q
  high = leb-true _ _ (ap (λ (p : Ring). leb p.capacity (count words p)) queue ∙ full)

  pub evict_answer : (r : Option ℕ) → r ≡ cond (has_entry words q) (Some (entry words q 0)) None → r ≡ cond (is_full words s c) (Some (oldest words s c)) None
  evict_answer r took =
      rw full (took ∙ (cond-true _ _ _ (some_waits words q placed good high) ∙ ap (λ (p : Ring). Some (entry words p 0)) queue))

  pub evict_words : now ≡ cond (has_entry words q) (popped words q) words → next ≡ cond (has_room now q) (pushed now q v) now → next ≡ queued words s c v (is_full words s c)
  evict_words left put =
      let rest : now ≡ popped words q = left ∙ cond-true _ _ _ (some_waits words q placed good high) in
      let room : has_room now q ≡ true = ap (λ (w : List ℕ). has_room w q) rest ∙ room_left words q placed good high in
      rw full (put ∙ (cond-true _ _ _ room ∙ (ap (λ (w : List ℕ). pushed w q v) rest ∙ ap (λ (p : Ring). pushed (popped words p) p v) queue)))
