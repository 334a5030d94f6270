-- What holds of a channel after every history on a fresh connection.
use Rattle.std.specs.Prelude.{◌≡◌, ℕ, ◌/◌, ◌<◌, ◌≤◌, true, false, ◌≢◌, List, [], ◌∷◌, ◌++◌, map, length, replicate, None, slice_index_or}
use Rattle.std.specs.List.{ContainsAt, AllByRecursion}
use Rattle.dynamic_storage.specs.declared.condition.Condition.TheVariants.{Absent, Ready}
use Rattle.shm_allocator.specs.Offsets.{segment_of, offset_of}
use Rattle.connection_words.specs.declared.settings.Settings.{Settings}
use Rattle.connection_words.specs.Settings.{segments, samples, channels, too_small, too_large, raised}
use Rattle.connection_words.specs.Places.{needed}
use Rattle.connection_ports.specs.declared.port.Port.{Port}
use Rattle.connection_ports.specs.declared.port.Port.TheVariants as port
use Rattle.connection_ports.specs.Fresh.{fresh_words}
use Rattle.connection_ports.specs.Creation.{creation_refusal, creation_words, creation_condition}
use Rattle.connection_ports.specs.Laws.{other}
use Rattle.zero_copy_connection.specs.Answers.{Answer, refused, nothing, value, flag, number}
use Rattle.channel_laws.specs.Calls.{State, state_of, Call, sends, receives, releases, reclaims, asks_data, asks_count}
use Rattle.channel_laws.specs.Readings.{settings, waiting, returned, mark_in, borrowed_in}
use Rattle.history.specs.Events.{Event, Runs}
use Rattle.history.specs.Books.{Books, unused, books, is_refused, has, Along}

-- a connection that was just created, with both ports, and no call made
pub record Fresh (t : State) : Type 0 where
  pub asked : Settings
  -- the state that was asked for the channels
  pub state : ℕ
  -- the words of the storage before
  pub before : List ℕ
  pub low : too_small asked ≡ false
  pub high : too_large asked ≡ false
  pub room : needed asked ≤ length before
  pub ready : t.condition ≡ Ready
  pub written : t.words ≡ fresh_words asked state 3 before
  pub uncounted : t.counts ≡ replicate 64 0

-- the state after a port is created; the counters of a new receiver are 0
abbrev pub counts_with : Port → List ℕ → List ℕ
counts_with port.Sender counts = counts
counts_with port.Receiver counts = replicate 64 0

abbrev pub created : Port → Settings → ℕ → State → State
created p s state t =
    state_of (creation_condition p (raised s) t.condition t.words) (creation_words p (raised s) state t.condition t.words) (counts_with p t.counts)

-- a creation is not refused
abbrev pub Accepts : Port → Settings → State → Type 0
Accepts p s t = creation_refusal p (raised s) t.condition t.words ≡ None

-- two ports created one after the other over an absent storage, in either order, leave a fresh connection
abbrev pub FreshCreated : Type 0
FreshCreated =
    (p : Port) (s r : Settings) (state also : ℕ) (t : State)
    → t.condition ≡ Absent → Accepts p s t → Accepts (other p) r (created p s state t)
    → Fresh (created (other p) r also (created p s state t))

-- a segment and an index
abbrev pub Chunk : Type 0
Chunk = ℕ × ℕ

-- the chunk of a value, by the sample size of its segment's first accepted send on the channel
abbrev pub chunk_of : Books → ℕ → Chunk
chunk_of b v = (segment_of v, offset_of v / b.size (segment_of v))

-- the values of a channel whose chunks are used
abbrev pub held : Books → List ℕ
held b = b.waiting ++ (b.on_loan ++ b.returned)

abbrev pub held_chunks : Books → List Chunk
held_chunks b = map (chunk_of b) (held b)

-- a chunk that the connection has
abbrev pub Inside : Settings → Chunk → Type 0
Inside s x = (x.0 < segments s) × (x.1 < samples s)

abbrev pub NoneTwice : List Chunk → Type 0
NoneTwice xs = (j k : ℕ) (d : Chunk) → j < k → k < length xs → slice_index_or xs j d ≢ slice_index_or xs k d

-- zs is xs with the entries ys left out, each at its own place
pub data LeavesOut : List ℕ → List ℕ → List ℕ → Type 0 where
  done : LeavesOut [] [] []
  keep : {x : ℕ} {xs ys zs : List ℕ} → LeavesOut xs ys zs → LeavesOut (x ∷ xs) ys (x ∷ zs)
  skip : {x : ℕ} {xs ys zs : List ℕ} → LeavesOut xs ys zs → LeavesOut (x ∷ xs) (x ∷ ys) zs

-- something holds of a call, if it is a send or a release
abbrev pub IfSends : Call → Type 0 → Type 0
IfSends (sends v size c) P = P
IfSends (receives c) P = Unit {0}
IfSends (releases v c) P = Unit {0}
IfSends (reclaims c) P = Unit {0}
IfSends (asks_data c) P = Unit {0}
IfSends (asks_count c) P = Unit {0}

abbrev pub IfReleases : Call → (ℕ → Type 0) → Type 0
IfReleases (sends v size c) P = Unit {0}
IfReleases (receives c) P = Unit {0}
IfReleases (releases v c) P = P v
IfReleases (reclaims c) P = Unit {0}
IfReleases (asks_data c) P = Unit {0}
IfReleases (asks_count c) P = Unit {0}

-- a release names a value that is on loan
abbrev pub NamesLoan : Books → Call → Answer → Type 0
NamesLoan b x a = IfReleases x (λ v. has v b.on_loan ≡ true)

-- a value that is answered is the first of a list
abbrev pub FirstOf : List ℕ → Answer → Type 0
FirstOf xs (refused n) = Unit {0}
FirstOf xs nothing = Unit {0}
FirstOf xs (value v) = (rest : List ℕ) × (xs ≡ v ∷ rest)
FirstOf xs (flag b) = Unit {0}
FirstOf xs (number n) = Unit {0}

-- a value that a send evicts was the oldest that waited
abbrev pub EvictsOldest : Books → Call → Answer → Type 0
EvictsOldest b x a = IfSends x (FirstOf b.waiting a)

-- a send is accepted only if a reclaim answered nothing since the accepted send before it
abbrev pub Paced : Books → Call → Answer → Type 0
Paced b x a = IfSends x (is_refused a ≡ false → b.since ≡ 0)

-- a release is not refused
abbrev pub Unrefused : Books → Call → Answer → Type 0
Unrefused b x a = IfReleases x (λ v. is_refused a ≡ false)

-- no call finds a value that is no used chunk
abbrev pub Uncorrupted : Books → Call → Answer → Type 0
Uncorrupted b x a = (a ≢ refused 27) × (a ≢ refused 32)

-- what the words and the counter of a channel with these books say, where the settings are s
pub record Stored (s : Settings) (c : ℕ) (b : Books) (z : State) : Type 0 where
  pub same_settings : settings z ≡ s
  -- a chunk is marked as used exactly when it is the chunk of a value that is held
  pub held_if_used : (g i : ℕ) → g < segments s → i < samples s → mark_in z c g i ≢ 0 → ContainsAt (held_chunks b) (g, i)
  pub used_if_held : (g i : ℕ) → ContainsAt (held_chunks b) (g, i) → mark_in z c g i ≢ 0
  pub waits : waiting z c ≡ b.waiting
  pub returns : returned z c ≡ b.returned
  pub borrows : borrowed_in z c ≡ length b.on_loan

-- what holds of channel c after a history
pub record Kept (s : Settings) (c : ℕ) (es : List Event) (z : State) : Type 0 where
  pub stored : Stored s c (books c es) z
  pub inside : AllByRecursion (Inside s) (held_chunks (books c es))
  pub apart : NoneTwice (held_chunks (books c es))
  pub whole : (books c es).missing ≡ []
  -- values leave in the order in which they were accepted
  pub in_order : (books c es).accepted ≡ (books c es).left ++ (books c es).waiting
  pub delivers : LeavesOut (books c es).accepted (books c es).evicted ((books c es).received ++ (books c es).waiting)
  pub oldest : Along EvictsOldest c unused es
  pub unrefused : Along Paced c unused es → Along Unrefused c unused es
  pub uncorrupted : Along Uncorrupted c unused es

-- after every prefix es of a history es ++ fs on a fresh connection, on each channel whose releases name values on loan
abbrev pub GuaranteeHolds : Type 0
GuaranteeHolds =
    (t z : State) (es fs : List Event) (c : ℕ)
    → Fresh t → Runs t (es ++ fs) z → c < channels (settings t) → Along NamesLoan c unused es
    → (y : State) × Runs t es y × Runs y fs z × Kept (settings t) c es y
