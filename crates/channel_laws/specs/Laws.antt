-- What holds of every call on a channel.
use Rattle.std.specs.Prelude.{◌≡◌, ℕ, ◌<◌, ◌≢◌, length}
use Rattle.connection_words.specs.Settings.{segments, samples, channels}
use Rattle.connection_words.specs.Laws.{SameAt}
use Rattle.zero_copy_connection.specs.Answers.{refused}
use Rattle.zero_copy_connection.specs.Sending.{sent_words, taken}
use Rattle.channel_laws.specs.Calls.{State, state_of, Call, sends, reclaims, channel_of, answered, after}
use Rattle.channel_laws.specs.Regions.{Mine}
use Rattle.channel_laws.specs.Readings.{settings, waiting, returned, size_in, mark_in, state_in, borrowed_in}

-- a call that refuses with n leaves in u all as it was in t, but for two: 27, which sends alone answer, where the value
-- was sent and the oldest has left, and 32, which reclaims alone answer, where the value has left; no mark is cleared
pub record RefusalLeaves (t : State) (x : Call) (n : ℕ) (u : State) : Type 0 where
  pub leaves : n ≢ 27 → n ≢ 32 → u ≡ t
  pub sent : n ≡ 27 → (v : ℕ) × (size : ℕ) × (c : ℕ) × (x ≡ sends v size c) × (u ≡ state_of t.condition (sent_words t.words (settings t) c v size) t.counts)
  pub reclaimed : n ≡ 32 → (c : ℕ) × (x ≡ reclaims c) × (u ≡ state_of t.condition (taken t.words (settings t) c) t.counts)

abbrev pub RefusalsLeave : Type 0
RefusalsLeave = (t : State) (x : Call) (n : ℕ) → answered t x ≡ refused n → RefusalLeaves t x n (after t x)

-- channel d reads the same in both states
pub record ChannelStays (d : ℕ) (t u : State) : Type 0 where
  pub state : state_in u d ≡ state_in t d
  pub waits : waiting u d ≡ waiting t d
  pub returns : returned u d ≡ returned t d
  pub sizes : (g : ℕ) → g < segments (settings t) → size_in u d g ≡ size_in t d g
  pub marks : (g i : ℕ) → g < segments (settings t) → i < samples (settings t) → mark_in u d g i ≡ mark_in t d g i
  pub counter : borrowed_in u d ≡ borrowed_in t d

-- a call changes words of its own channel alone, and the counter of its own channel alone
pub record RestStays (t : State) (x : Call) : Type 0 where
  pub condition : (after t x).condition ≡ t.condition
  pub words_long : length (after t x).words ≡ length t.words
  pub counts_long : length (after t x).counts ≡ length t.counts
  pub header : (p : ℕ) → p < 8 → SameAt (after t x).words t.words p
  pub outside : (p : ℕ) → (Mine (settings t) (channel_of x) p → ⊥) → SameAt (after t x).words t.words p
  pub counters : (d : ℕ) → d ≢ channel_of x → borrowed_in (after t x) d ≡ borrowed_in t d
  pub others : (d : ℕ) → d < channels (settings t) → d ≢ channel_of x → ChannelStays d t (after t x)

abbrev pub OthersAllStay : Type 0
OthersAllStay = (t : State) (x : Call) → RestStays t x

-- two states that agree on channel c, on the header and on how many words and counters there are
pub record Agree (c : ℕ) (t u : State) : Type 0 where
  pub condition : u.condition ≡ t.condition
  pub words_long : length u.words ≡ length t.words
  pub counts_long : length u.counts ≡ length t.counts
  pub header : (p : ℕ) → p < 8 → SameAt u.words t.words p
  pub region : (p : ℕ) → Mine (settings t) c p → SameAt u.words t.words p
  pub counter : borrowed_in u c ≡ borrowed_in t c

-- a call answers the same in both, and leaves them agreeing
pub record SameOutcome (t u : State) (x : Call) : Type 0 where
  pub answers : answered u x ≡ answered t x
  pub agree : Agree (channel_of x) (after t x) (after u x)

abbrev pub OwnChannelDecides : Type 0
OwnChannelDecides = (t u : State) (x : Call) → Agree (channel_of x) t u → SameOutcome t u x
