-- A send that nothing refuses: recording a chunk leaves the queues as they are.
use Rattle.std.proofs.Common.{◌≡◌, ℕ, ◌+◌, ◌%◌, ◌<◌, true, false, cond, leb, List, get_or, set, Some, None, sym, ap, ◌∙◌, arith}
use Rattle.std.proofs.lemmas.Nat.{mod_below}
use Rattle.std.proofs.lemmas.Bool.{cond-true, cond-false}
use Rattle.std.proofs.lemmas.List.{get_or-set_other}
use Rattle.shm_allocator.specs.Offsets.{segment_of}
use Rattle.connection_words.specs.declared.settings.Settings.{Settings}
use Rattle.connection_words.specs.Settings.{Limits, buffer, channels}
use Rattle.connection_words.specs.Places.{stride, channel_at, submission_of, size_at}
use Rattle.connection_words.specs.Queues.{start, count, slot_of, queue_sound}
use Rattle.connection_words.specs.Chunks.{mark_of}
use Rattle.connection_words.proofs.Apart.{channels_first}
use Rattle.connection_ports.proofs.Steps.{some_is, some_true, none_false}
use Rattle.zero_copy_connection.specs.declared.mark.Mark.TheVariants.{Free, Used}
use Rattle.zero_copy_connection.specs.Answers.{nothing}
use Rattle.zero_copy_connection.specs.Marks.{mark_changed}
use Rattle.zero_copy_connection.specs.Sending.{is_full, recorded, queued, sent_words, oldest, evicted, freed_answer, freed_words}

module _ (words now : List ℕ) (s : Settings) (c v size p m : ℕ) (limits : Limits s) (inside : c < channels s)
    (size-at : p ≡ size_at s c (segment_of v)) (mark-at : m ≡ mark_of s c size v) (wrote : now ≡ set (set words p size) m 1) where
  marked : now ≡ recorded words s c v size
  marked = wrote ∙ rw (size-at, mark-at)

  kept : (k : ℕ) → k < channel_at s c + stride s → get_or now k 0 ≡ get_or words k 0
  kept k l =
      let first = channels_first s c c (segment_of v) inside in
      ap (λ (w : List ℕ). get_or w k 0) marked
      ∙ (get_or-set_other (set words (size_at s c (segment_of v)) size) (mark_of s c size v) k 1 0 (omega arith)
      ∙ get_or-set_other words (size_at s c (segment_of v)) k size 0 (omega arith))

  start_kept : start now (submission_of s c) ≡ start words (submission_of s c)
  start_kept = kept (channel_at s c + 1) (omega arith)

  count_kept : count now (submission_of s c) ≡ count words (submission_of s c)
  count_kept = kept (channel_at s c + 1 + 1) (omega arith)

  oldest_kept : oldest now s c ≡ oldest words s c
  oldest_kept =
      let below = mod_below (start words (submission_of s c) + 0) (buffer s) (omega arith) in
      ap (λ (n : ℕ). get_or now (channel_at s c + 5 + (n + 0) % buffer s) 0) start_kept
      ∙ kept (slot_of words (submission_of s c) 0) (omega arith)

  full_kept : is_full now s c ≡ is_full words s c
  full_kept = ap (leb (buffer s)) count_kept

  pub sound_kept : queue_sound words (submission_of s c) ≡ true → queue_sound now (submission_of s c) ≡ true
  sound_kept e = rw (start_kept, count_kept) e

  module _ (next : List ℕ) (put : next ≡ queued now s c v (is_full now s c)) where
    sent_is : next ≡ sent_words words s c v size
    sent_is = put ∙ (ap (queued now s c v) full_kept ∙ ap (λ (w : List ℕ). queued w s c v (is_full words s c)) marked)

    module _ (same : None ≡ cond (is_full now s c) (Some (oldest now s c)) None) where
      not_full : is_full words s c ≡ false
      not_full = sym full_kept ∙ none_false (is_full now s c) (oldest now s c) same

      pub room_answer : nothing ≡ cond (is_full words s c) (freed_answer (evicted words s c v size) (oldest words s c) 27) nothing
      room_answer = sym (cond-false (is_full words s c) _ _ not_full)

      pub room_words : next ≡ cond (is_full words s c) (freed_words (evicted words s c v size) (sent_words words s c v size)) (sent_words words s c v size)
      room_words = sent_is ∙ sym (cond-false (is_full words s c) _ _ not_full)

    module _ (e : ℕ) (took : Some e ≡ cond (is_full now s c) (Some (oldest now s c)) None) where
      is_full_lem : is_full words s c ≡ true
      is_full_lem = sym full_kept ∙ some_true (is_full now s c) e (oldest now s c) took

      first_is : e ≡ oldest words s c
      first_is = some_is (is_full now s c) e (oldest now s c) took ∙ oldest_kept

      pub judged_answer : freed_answer (mark_changed next s c e Used Free) e 27 ≡ cond (is_full words s c) (freed_answer (evicted words s c v size) (oldest words s c) 27) nothing
      judged_answer =
          ap (λ (x : ℕ). freed_answer (mark_changed next s c x Used Free) x 27) first_is
          ∙ (ap (λ (w : List ℕ). freed_answer (mark_changed w s c (oldest words s c) Used Free) (oldest words s c) 27) sent_is
          ∙ sym (cond-true (is_full words s c) _ _ is_full_lem))

      pub judged_words : freed_words (mark_changed next s c e Used Free) next ≡ cond (is_full words s c) (freed_words (evicted words s c v size) (sent_words words s c v size)) (sent_words words s c v size)
      judged_words =
          ap (λ (x : ℕ). freed_words (mark_changed next s c x Used Free) next) first_is
          ∙ (ap (λ (w : List ℕ). freed_words (mark_changed w s c (oldest words s c) Used Free) w) sent_is
          ∙ sym (cond-true (is_full words s c) _ _ is_full_lem))
