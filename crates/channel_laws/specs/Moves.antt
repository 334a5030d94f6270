-- How the values of a channel move: what a call that answers a, and leaves the state u, did to the state t.
use Rattle.std.specs.Prelude.{◌≡◌, ℕ, ◌+◌, ◌<◌, true, false, List, [], ◌∷◌, ◌++◌, length}
use Rattle.zero_copy_connection.specs.declared.mark.Mark.TheVariants.{Free, Used}
use Rattle.zero_copy_connection.specs.Answers.{Answer, refused, nothing, value}
use Rattle.channel_laws.specs.Calls.{State, sends, receives, releases, reclaims, asks_data, asks_count, answered, after}
use Rattle.channel_laws.specs.Readings.{settings, waiting, returned, size_in, mark_in, state_in, borrowed_in, Shows, resized, remarked, names_used}

-- sizes and marks once a value of a size is recorded
abbrev pub sizes_with : State → ℕ → ℕ → ℕ → ℕ → ℕ
sizes_with t c v size = resized (size_in t c) v size

abbrev pub marks_with : State → ℕ → ℕ → ℕ → ℕ → ℕ → ℕ
marks_with t c v size = remarked (mark_in t c) (sizes_with t c v size) v Used

-- a sent value joins those that wait, and its size and mark are recorded; where an older one leaves, its mark is
-- cleared if, judged by the new sizes and marks, it names a used chunk, and else 27 is answered
pub record SendMoves (t : State) (v size c : ℕ) (a : Answer) (u : State) : Type 0 where
  pub appends : a ≡ nothing → Shows u c (waiting t c ++ v ∷ []) (returned t c) (sizes_with t c v size) (marks_with t c v size)
  pub evicts : (e : ℕ) → a ≡ value e → (rest : List ℕ)
      × (waiting t c ≡ e ∷ rest)
      × (names_used (settings t) (sizes_with t c v size) (marks_with t c v size) e ≡ true)
      × Shows u c (rest ++ v ∷ []) (returned t c) (sizes_with t c v size) (remarked (marks_with t c v size) (sizes_with t c v size) e Free)
  pub corrupted : a ≡ refused 27 → (e : ℕ) × (rest : List ℕ)
      × (waiting t c ≡ e ∷ rest)
      × (names_used (settings t) (sizes_with t c v size) (marks_with t c v size) e ≡ false)
      × Shows u c (rest ++ v ∷ []) (returned t c) (sizes_with t c v size) (marks_with t c v size)
  pub counts_stay : u.counts ≡ t.counts
  pub state_stays : state_in u c ≡ state_in t c

-- the oldest value that waits is received and counted
pub record ReceiveMoves (t : State) (c : ℕ) (a : Answer) (u : State) : Type 0 where
  pub takes : (v : ℕ) → a ≡ value v → (waiting t c ≡ v ∷ waiting u c)
      × Shows u c (waiting u c) (returned t c) (size_in t c) (mark_in t c)
      × (c < length t.counts → borrowed_in u c ≡ borrowed_in t c + 1)
  pub empty : a ≡ nothing → (waiting t c ≡ []) × (u ≡ t)
  pub state_stays : state_in u c ≡ state_in t c

-- a released value joins those that wait to be reclaimed
pub record ReleaseMoves (t : State) (v c : ℕ) (a : Answer) (u : State) : Type 0 where
  pub appends : a ≡ nothing → Shows u c (waiting t c) (returned t c ++ v ∷ []) (size_in t c) (mark_in t c)
      × (c < length t.counts → borrowed_in u c + 1 ≡ borrowed_in t c)
  pub state_stays : state_in u c ≡ state_in t c

-- the oldest returned value leaves; its mark is cleared if it names a used chunk, and else 32 is answered
pub record ReclaimMoves (t : State) (c : ℕ) (a : Answer) (u : State) : Type 0 where
  pub takes : (v : ℕ) → a ≡ value v → (returned t c ≡ v ∷ returned u c)
      × (names_used (settings t) (size_in t c) (mark_in t c) v ≡ true)
      × Shows u c (waiting t c) (returned u c) (size_in t c) (remarked (mark_in t c) (size_in t c) v Free)
  pub corrupted : a ≡ refused 32 → (v : ℕ)
      × (returned t c ≡ v ∷ returned u c)
      × (names_used (settings t) (size_in t c) (mark_in t c) v ≡ false)
      × Shows u c (waiting t c) (returned u c) (size_in t c) (mark_in t c)
  pub empty : a ≡ nothing → (returned t c ≡ []) × (u ≡ t)
  pub counts_stay : u.counts ≡ t.counts
  pub state_stays : state_in u c ≡ state_in t c

pub record CallsMove (t : State) : Type 0 where
  pub send : (v size c : ℕ) → SendMoves t v size c (answered t (sends v size c)) (after t (sends v size c))
  pub receive : (c : ℕ) → ReceiveMoves t c (answered t (receives c)) (after t (receives c))
  pub release : (v c : ℕ) → ReleaseMoves t v c (answered t (releases v c)) (after t (releases v c))
  pub reclaim : (c : ℕ) → ReclaimMoves t c (answered t (reclaims c)) (after t (reclaims c))
  pub ask : (c : ℕ) → (after t (asks_data c) ≡ t) × (after t (asks_count c) ≡ t)
