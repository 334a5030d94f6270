-- A window's words below, and what a write through it leaves around it.
use Rattle.std.proofs.Common.{◌≡◌, ℕ, ◌+◌, ◌<◌, ◌≢◌, List, length, take, drop, set, Some, ap, ◌∙◌, arith}
use Rattle.std.proofs.lemmas.Bool.Decides.{nat_tests}
use Rattle.std.proofs.lemmas.List.{drop-set-add, drop-set-lt, length-set, get_or-set_other, take-set-le}
use Rattle.std.proofs.Math.Seq.{take-set-lt}
use Rattle.dynamic_storage.specs.Codes.{fixed_code}
use Rattle.storage_layers.specs.Layers.{framed, framed_at, around_window}
use Rattle.dynamic_storage.specs.declared.condition.Condition.{Condition}

-- a word of the window is written: the window shows it, and all around it stays
module _ (words : List ℕ) (place count k w : ℕ) (h : k < count) where
  pub framed_written : framed (set words (place + 1 + k) w) place count ≡ set (framed words place count) k w
  framed_written = rw (drop-set-add (place + 1) words k w) (take-set-lt count (drop (place + 1) words) k w h)

  pub fixed_written : fixed_code (set words (place + 1 + k) w) place ≡ fixed_code words place
  fixed_written = let ne : place ≢ place + 1 + k = omega arith in rw (length-set, get_or-set_other)

  pub before_written : take place (set words (place + 1 + k) w) ≡ take place words
  before_written = take-set-le place words (place + 1 + k) w (omega arith)

  pub behind_written : drop (place + 1 + count) (set words (place + 1 + k) w) ≡ drop (place + 1 + count) words
  behind_written = drop-set-lt (place + 1 + count) words (place + 1 + k) w (omega arith)

pub place_is : (words : List ℕ) (place count k p : ℕ) → Some p ≡ framed_at words place count k → (p ≡ place + 1 + k) × (k < count) × (place + 1 + k < length words)
place_is words place count k p e = grind (arith, nat_tests)

-- a write at a place that the window has, as the storage below tells of it
module _ (ws vs : List ℕ) (place count k p w : ℕ) (found : Some p ≡ framed_at ws place count k) (put : vs ≡ set ws p w) where
  moved : vs ≡ set ws (place + 1 + k) w
  moved = put ∙ ap (λ q. set ws q w) (place_is ws place count k p found).0

  in_count : k < count
  in_count = (place_is ws place count k p found).1

  pub written_words : framed vs place count ≡ set (framed ws place count) k w
  written_words = rw moved (framed_written ws place count k w in_count)

  pub written_around : (b c : Condition) (o q : List (List ℕ)) → b ≡ c → o ≡ q → around_window vs place count b o ≡ around_window ws place count c q
  written_around b c o q e f =
      rw (moved, e, f, before_written ws place count k w in_count, fixed_written ws place count k w in_count, behind_written ws place count k w in_count)
