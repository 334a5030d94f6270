-- What later proofs use of places and queues.
use Rattle.std.specs.Prelude.{◌≡◌, ℕ, ◌+◌, ◌<◌, ◌≤◌, Bool, true, ◌≢◌, ◌⊎◌, List, [], ◌∷◌, ◌++◌, length, slice_index}
use Rattle.connection_words.specs.declared.settings.Settings.{Settings}
use Rattle.connection_words.specs.declared.ring.Ring.{Ring}
use Rattle.connection_words.specs.Settings.{Limits, segments, samples, channels, completions}
use Rattle.connection_words.specs.Places.{stride, channel_at, detail_at, needed, submission_of, completion_of, state_at, size_at, mark_at}
use Rattle.connection_words.specs.Queues.{entry, entries, count, queue_sound, pushed, popped, has_room, has_entry, Belongs, Placed}

-- the two queues of a channel
pub data Side : Type 0 where
  submission : Side
  completion : Side

abbrev pub queue_of : Settings → Side → ℕ → Ring
queue_of s submission c = submission_of s c
queue_of s completion c = completion_of s c

-- header, channels and details do not meet, nor do different channels, details or marks
pub record PlacesApart (s : Settings) : Type 0 where
  pub header_first : (c : ℕ) → 8 ≤ channel_at s c
  pub channels_apart : (c d : ℕ) → c < d → channel_at s c + stride s ≤ channel_at s d
  pub channels_first : (c d g : ℕ) → c < channels s → channel_at s c + stride s ≤ detail_at s d g
  pub segments_apart : (c g h : ℕ) → g < h → detail_at s c g + 1 + samples s ≤ detail_at s c h
  pub details_apart : (c d g h : ℕ) → c < d → g < segments s → detail_at s c g + 1 + samples s ≤ detail_at s d h
  pub details_inside : (c g : ℕ) → c < channels s → g < segments s → detail_at s c g + 1 + samples s ≤ needed s
  pub marks_differ : (c d g h i j : ℕ) → g < segments s → h < segments s → i < samples s → j < samples s → mark_at s c g i ≡ mark_at s d h j → (c ≡ d) × (g ≡ h) × (i ≡ j)
  pub sizes_differ : (c d g h : ℕ) → g < segments s → h < segments s → size_at s c g ≡ size_at s d h → (c ≡ d) × (g ≡ h)
  pub sizes_unmarked : (c d g h j : ℕ) → g < segments s → h < segments s → j < samples s → size_at s c g ≢ mark_at s d h j
  pub queue_inside : (side : Side) (c p : ℕ) → Belongs (queue_of s side c) p → (channel_at s c < p) × (p < channel_at s c + stride s)
  pub queues_apart : (x y : Side) (c d p : ℕ) → (x ≢ y) ⊎ (c ≢ d) → Belongs (queue_of s x c) p → Belongs (queue_of s y d) p → ⊥
  pub queues_placed : (side : Side) (c : ℕ) → c < channels s → Placed (queue_of s side c)
  pub small : needed s ≤ 1069760840

abbrev pub PlacesAreApart : Type 0
PlacesAreApart = (s : Settings) → Limits s → PlacesApart s

-- a queue within the words
pub record Within (words : List ℕ) (q : Ring) : Type 0 where
  pub placed : Placed q
  pub inside : q.slots + q.capacity ≤ length words

-- a push appends to the entries and a pop takes the first; neither touches a place that is not the queue's, and the
-- entries of a queue depend on its own places alone
pub record QueueOrder : Type 0 where
  pub push_appends : (words : List ℕ) (q : Ring) (v : ℕ) → Within words q → has_room words q ≡ true → entries (pushed words q v) q ≡ entries words q ++ v ∷ []
  pub pop_takes : (words : List ℕ) (q : Ring) → Within words q → has_entry words q ≡ true → entries words q ≡ entry words q 0 ∷ entries (popped words q) q
  pub push_sound : (words : List ℕ) (q : Ring) (v : ℕ) → Within words q → has_room words q ≡ true → queue_sound (pushed words q v) q ≡ true
  pub pop_sound : (words : List ℕ) (q : Ring) → Within words q → has_entry words q ≡ true → queue_sound (popped words q) q ≡ true
  pub push_count : (words : List ℕ) (q : Ring) (v : ℕ) → Within words q → count (pushed words q v) q ≡ count words q + 1
  pub pop_count : (words : List ℕ) (q : Ring) → Within words q → has_entry words q ≡ true → count (popped words q) q + 1 ≡ count words q
  pub push_only : (words : List ℕ) (q : Ring) (v p : ℕ) → Placed q → (Belongs q p → ⊥) → slice_index (pushed words q v) p ≡ slice_index words p
  pub pop_only : (words : List ℕ) (q : Ring) (p : ℕ) → Placed q → (Belongs q p → ⊥) → slice_index (popped words q) p ≡ slice_index words p
  pub entries_depend : (words others : List ℕ) (q : Ring) → Placed q → ((p : ℕ) → Belongs q p → slice_index others p ≡ slice_index words p) → entries others q ≡ entries words q
  pub entries_number : (words : List ℕ) (q : Ring) → length (entries words q) ≡ count words q

-- words that have the same word at a place
abbrev pub SameAt : List ℕ → List ℕ → ℕ → Type 0
SameAt others words place = slice_index others place ≡ slice_index words place

-- what a push to, or a pop from, the queue on side x of channel c leaves of the connection: the entries of every other
-- queue, the header, every channel's state, every size and every mark
pub record OthersStay (s : Settings) (words others : List ℕ) (x : Side) (c : ℕ) : Type 0 where
  pub entries_stay : (y : Side) (d : ℕ) → d < channels s → (x ≢ y) ⊎ (c ≢ d) → entries others (queue_of s y d) ≡ entries words (queue_of s y d)
  pub header_stays : (p : ℕ) → p < 8 → SameAt others words p
  pub states_stay : (d : ℕ) → SameAt others words (state_at s d)
  pub sizes_stay : (d g : ℕ) → SameAt others words (size_at s d g)
  pub marks_stay : (d g i : ℕ) → SameAt others words (mark_at s d g i)

abbrev pub OthersAllStay : Type 0
OthersAllStay =
    (s : Settings) → Limits s → (words : List ℕ) (x : Side) (c v : ℕ) → c < channels s
    → OthersStay s words (pushed words (queue_of s x c) v) x c × OthersStay s words (popped words (queue_of s x c)) x c

-- settings by their numbers: buffer, borrowed, samples, segments, channels; and the overflow
abbrev pub settings_with : ℕ → ℕ → ℕ → ℕ → ℕ → Bool → Settings
settings_with b w n g c overflow =
    record {
      buffer_size = b;
      max_borrowed_samples_per_channel = w;
      number_of_samples_per_segment = n;
      number_of_segments = g;
      number_of_channels = c;
      enable_safe_overflow = overflow;
    }

-- what a small connection and the largest one take
pub record Sizes : Type 0 where
  pub small_completions : (overflow : Bool) → completions (settings_with 1 1 8 1 1 overflow) ≡ 3
  pub small_needed : (overflow : Bool) → needed (settings_with 1 1 8 1 1 overflow) ≡ 26
  pub largest_needed : (overflow : Bool) → needed (settings_with 1024 1024 65536 255 64 overflow) ≡ 1069760840
