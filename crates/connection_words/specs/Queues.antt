-- Queues in the words: entry k, the oldest being 0, is in slot (start + k) mod capacity.
use Rattle.std.specs.Prelude.{◌≡◌, ℕ, ◌+◌, ◌-◌, ◌%◌, ◌^◌, ◌<◌, ◌≤◌, Bool, ◌&&◌, ◌⊎◌, List, map, nat_le, nat_lt, slice_index, slice_set}
use Rattle.std.specs.List.{range_with_len}
use Rattle.connection_words.specs.declared.settings.Settings.{Settings}
use Rattle.connection_words.specs.declared.ring.Ring.{Ring}
use Rattle.connection_words.specs.Places.{submission_of, completion_of}

-- the slot of the oldest entry, and how many entries there are
abbrev pub start : List ℕ → Ring → ℕ
start words q = slice_index words q.heads

abbrev pub count : List ℕ → Ring → ℕ
count words q = slice_index words (q.heads + 1)

-- where entry k stands
abbrev pub slot_of : List ℕ → Ring → ℕ → ℕ
slot_of words q k = q.slots + (start words q + k) % q.capacity

abbrev pub entry : List ℕ → Ring → ℕ → ℕ
entry words q k = slice_index words (slot_of words q k)

-- the entries, the oldest first
abbrev pub entries : List ℕ → Ring → List ℕ
entries words q = map (λ k. entry words q k) (range_with_len 0 (count words q))

-- the start is below and the count not above the capacity
abbrev pub queue_sound : List ℕ → Ring → Bool
queue_sound words q = nat_lt (start words q) q.capacity && nat_le (count words q) q.capacity

-- both queues of a channel are sound
abbrev pub channel_sound : List ℕ → Settings → ℕ → Bool
channel_sound words s c = queue_sound words (submission_of s c) && queue_sound words (completion_of s c)

-- a value joins the queue behind its entries
abbrev pub pushed : List ℕ → Ring → ℕ → List ℕ
pushed words q v = slice_set (slice_set words (slot_of words q (count words q)) v) (q.heads + 1) (count words q + 1)

-- the oldest entry leaves the queue; its slot keeps its word
abbrev pub popped : List ℕ → Ring → List ℕ
popped words q = slice_set (slice_set words q.heads ((start words q + 1) % q.capacity)) (q.heads + 1) (count words q - 1)

-- whether a value can join, and whether one can leave
abbrev pub has_room : List ℕ → Ring → Bool
has_room words q = queue_sound words q && nat_lt (count words q) q.capacity

abbrev pub has_entry : List ℕ → Ring → Bool
has_entry words q = queue_sound words q && nat_lt 0 (count words q)

-- a place of the queue
abbrev pub Belongs : Ring → ℕ → Type 0
Belongs q place = ((place ≡ q.heads) ⊎ (place ≡ q.heads + 1)) ⊎ ((q.slots ≤ place) × (place < q.slots + q.capacity))

-- the places of the queue are numbers of 64 bits, its slots lie behind its start and count, and there is a slot
abbrev pub Placed : Ring → Type 0
Placed q = (q.heads + 2 ≤ q.slots) × (q.slots + q.capacity < 2 ^ 63) × (0 < q.capacity)
