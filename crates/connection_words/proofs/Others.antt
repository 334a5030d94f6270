-- What a change of one queue leaves of the connection.
use Rattle.std.proofs.Common.{◌≡◌, ℕ, ◌<◌, ◌≤◌, List, ⊎_elim, arith}
use Rattle.std.proofs.lemmas.Bool.{cases_order}
use Rattle.connection_words.specs.declared.settings.Settings.{Settings}
use Rattle.connection_words.specs.Settings.{Limits, channels}
use Rattle.connection_words.specs.Places.{channel_at, state_at, size_at, mark_at}
use Rattle.connection_words.specs.Queues.{Belongs, pushed, popped}
use Rattle.connection_words.specs.Laws.{Side, queue_of, SameAt, OthersStay, OthersAllStay}
use Rattle.connection_words.proofs.Apart.{header_first, channels_apart, channels_first, queue_inside, queues_apart, queues_placed}
use Rattle.connection_words.proofs.Order.{push_only, pop_only, entries_depend}

module _ (s : Settings) (limits : Limits s) (words others : List ℕ) (x : Side) (c : ℕ) (there : c < channels s) (only : (p : ℕ) → (Belongs (queue_of s x c) p → ⊥) → SameAt others words p) where
  -- a state is no place of a queue
  state_free : (d : ℕ) → Belongs (queue_of s x c) (state_at s d) → ⊥
  state_free d b =
      let inside = queue_inside s x c (state_at s d) b in
      ⊎_elim
      (λ (e : c ≡ d). let same : channel_at s c ≡ channel_at s d = rw e in omega arith)
      (⊎_elim
      (λ (l : c < d). omega (arith, channels_apart s c d l))
      (λ (l : d < c). omega (arith, channels_apart s d c l)))
      (cases_order c d)

  -- nor is a place of a detail
  detail_free : (d g p : ℕ) → size_at s d g ≤ p → Belongs (queue_of s x c) p → ⊥
  detail_free d g p h b =
      let inside = queue_inside s x c p b in
      omega (arith, channels_first s c d g there)

  pub stay : OthersStay s words others x c
  stay =
      record {
        entries_stay = λ y d h ne. entries_depend words (queue_of s y d) (queues_placed s limits y d h) others (λ p b. only p (λ a. queues_apart s x y c d p ne a b));
        header_stays = λ p h. only p (λ b. let inside = queue_inside s x c p b in omega (arith, header_first s c));
        states_stay = λ d. only (state_at s d) (state_free d);
        sizes_stay = λ d g. only (size_at s d g) (detail_free d g (size_at s d g) (omega arith));
        marks_stay = λ d g i. only (mark_at s d g i) (detail_free d g (mark_at s d g i) (omega arith));
      }

pub others_stay : OthersAllStay
others_stay s limits words x c v there =
    let placed = queues_placed s limits x c there in (
      stay s limits words (pushed words (queue_of s x c) v) x c there (push_only words (queue_of s x c) placed v),
      stay s limits words (popped words (queue_of s x c)) x c there (pop_only words (queue_of s x c) placed),
    )
