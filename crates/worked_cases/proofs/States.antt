-- The states of the two connections, word by word; behind the words that are needed stand those from before.
use Rattle.std.proofs.Common.{◌≡◌, ℕ, ◌-◌, true, leb, List, ◌∷◌, ◌++◌, length, drop, replicate, arith}
use Rattle.std.proofs.lemmas.Bool.{le-leb}
use Rattle.dynamic_storage.specs.declared.condition.Condition.TheVariants.{Ready}
use Rattle.channel_laws.specs.Calls.{State, state_of}

-- the size of samples, and marks where the first n chunks are used
abbrev pub used : ℕ → List ℕ
used n = 64 ∷ replicate n 1 ++ replicate (8 - n) 0

module _ (before : List ℕ) where
  -- a buffer of one: how many wait and were returned, the slots of both queues, the detail, how many are borrowed
  abbrev pub small : (waits returns : ℕ) → List ℕ → List ℕ → (loans : ℕ) → State
  small waits returns slots detail loans =
      state_of Ready (3 ∷ 1 ∷ 1 ∷ 8 ∷ 1 ∷ 1 ∷ 0 ∷ 3 ∷ 0 ∷ 0 ∷ waits ∷ 0 ∷ returns ∷ slots ++ (detail ++ drop 26 before)) (loans ∷ replicate 63 0)

  abbrev pub small_new : State
  small_new = small 0 0 (replicate 4 0) (replicate 9 0) 0

  pub small_room : leb 26 (length small_new.words) ≡ true
  small_room = le-leb 26 (length small_new.words) (omega arith)

  -- a buffer of two that overflows: start and count of both queues, their slots, the detail, how many are borrowed
  abbrev pub overflowing : List ℕ → List ℕ → List ℕ → (loans : ℕ) → State
  overflowing heads slots detail loans =
      state_of Ready (3 ∷ 2 ∷ 1 ∷ 8 ∷ 1 ∷ 1 ∷ 1 ∷ 4 ∷ 0 ∷ heads ++ (slots ++ (detail ++ drop 28 before))) (loans ∷ replicate 63 0)

  abbrev pub overflowing_new : State
  overflowing_new = overflowing (replicate 4 0) (replicate 6 0) (replicate 9 0) 0

  pub overflowing_room : leb 28 (length overflowing_new.words) ≡ true
  overflowing_room = le-leb 28 (length overflowing_new.words) (omega arith)
