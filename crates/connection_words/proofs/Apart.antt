-- The parts of a connection do not meet.
use Rattle.std.proofs.Common.{◌≡◌, ℕ, ◌+◌, ◌*◌, ◌<◌, ◌≤◌, ◌≢◌, ◌⊎◌, sym, refl, ap, subst, ⊎_elim, add-zero, add-mul, arith}
use Rattle.std.proofs.lemmas.Nat.{mul-le}
use Rattle.std.proofs.lemmas.Bool.{cases_order}
use Rattle.connection_words.specs.declared.settings.Settings.{Settings}
use Rattle.connection_words.specs.Settings.{Limits, segments, samples, channels}
use Rattle.connection_words.specs.Places.{stride, channel_at, detail_at, needed, submission_of, completion_of, size_at, mark_at}
use Rattle.connection_words.specs.Queues.{Belongs, Placed}
use Rattle.connection_words.specs.Laws.{Side, submission, completion, queue_of}
use Rattle.connection_words.proofs.Bounds.{strides_few, segments_few, details_few}

-- a row ends before a later one begins
pub rows_apart : (w a b : ℕ) → a < b → a * w + w ≤ b * w
rows_apart w a b h = omega (arith, mul-le (a + 1) w b w (omega arith) (omega arith), add-mul a 1 w)

pub header_first : (s : Settings) (c : ℕ) → 8 ≤ channel_at s c
unfolding channel_at
header_first s c = omega arith

pub channels_apart : (s : Settings) (c d : ℕ) → c < d → channel_at s c + stride s ≤ channel_at s d
unfolding channel_at
channels_apart s c d h = omega (arith, rows_apart (stride s) c d h)

pub channels_first : (s : Settings) (c d g : ℕ) → c < channels s → channel_at s c + stride s ≤ detail_at s d g
unfolding channel_at detail_at
channels_first s c d g h = omega (arith, rows_apart (stride s) c (channels s) h)

pub channel_small : (s : Settings) → Limits s → (c : ℕ) → c ≤ 64 → channel_at s c ≤ 197000
unfolding channel_at
channel_small s l c h = omega (arith, strides_few s l c h)

-- details, in the order of their numbers over all channels
details_ordered : (s : Settings) (c d g h : ℕ) → c * segments s + g < d * segments s + h → detail_at s c g + 1 + samples s ≤ detail_at s d h
unfolding detail_at
details_ordered s c d g h l = omega (arith, rows_apart (1 + samples s) (c * segments s + g) (d * segments s + h) l)

pub segments_apart : (s : Settings) (c g h : ℕ) → g < h → detail_at s c g + 1 + samples s ≤ detail_at s c h
segments_apart s c g h l = details_ordered s c c g h (omega arith)

pub details_apart : (s : Settings) (c d g h : ℕ) → c < d → g < segments s → detail_at s c g + 1 + samples s ≤ detail_at s d h
details_apart s c d g h l k = details_ordered s c d g h (omega (arith, rows_apart (segments s) c d l))

-- the words end where a detail of one more channel would begin
pub details_end : (s : Settings) → detail_at s (channels s) 0 ≡ needed s
unfolding detail_at needed
details_end s = rw add-zero

pub details_inside : (s : Settings) (c g : ℕ) → c < channels s → g < segments s → detail_at s c g + 1 + samples s ≤ needed s
details_inside s c g l k = omega (arith, details_apart s c (channels s) g 0 l k, details_end s)

pub needed_small : (s : Settings) → Limits s → needed s ≤ 1069760840
unfolding needed
needed_small s l =
    let strides = strides_few s l (channels s) (omega arith) in
    let few = details_few s l (channels s * segments s) (64 * 255) (segments_few s l (channels s) (omega arith)) in
    omega arith

-- words of details at one place are one word
pub detail_words_differ : (s : Settings) (c d g h i j : ℕ) → g < segments s → h < segments s → i ≤ samples s → j ≤ samples s → detail_at s c g + i ≡ detail_at s d h + j → (c ≡ d) × (g ≡ h) × (i ≡ j)
detail_words_differ s c d g h i j lg lh li lj e =
    ⊎_elim
    (λ (same : c ≡ d).
    let moved : detail_at s c g ≡ detail_at s d g = ap (λ (x : ℕ). detail_at s x g) same in
    ⊎_elim
    (λ (also : g ≡ h). let there : detail_at s d g ≡ detail_at s d h = ap (λ (x : ℕ). detail_at s d x) also in (same, also, omega arith))
    (⊎_elim
    (λ (l : g < h). absurd (omega (arith, segments_apart s d g h l)))
    (λ (l : h < g). absurd (omega (arith, segments_apart s d h g l))))
    (cases_order g h))
    (⊎_elim
    (λ (l : c < d). absurd (omega (arith, details_apart s c d g h l lg)))
    (λ (l : d < c). absurd (omega (arith, details_apart s d c h g l lh))))
    (cases_order c d)

pub marks_differ : (s : Settings) (c d g h i j : ℕ) → g < segments s → h < segments s → i < samples s → j < samples s → mark_at s c g i ≡ mark_at s d h j → (c ≡ d) × (g ≡ h) × (i ≡ j)
marks_differ s c d g h i j lg lh li lj e =
    let same = detail_words_differ s c d g h (1 + i) (1 + j) lg lh (omega arith) (omega arith) (omega arith) in
    (same.0, same.1, omega arith)

pub sizes_differ : (s : Settings) (c d g h : ℕ) → g < segments s → h < segments s → size_at s c g ≡ size_at s d h → (c ≡ d) × (g ≡ h)
sizes_differ s c d g h lg lh e =
    let same = detail_words_differ s c d g h 0 0 lg lh (omega arith) (omega arith) (omega arith) in (same.0, same.1)

pub sizes_unmarked : (s : Settings) (c d g h j : ℕ) → g < segments s → h < segments s → j < samples s → size_at s c g ≢ mark_at s d h j
sizes_unmarked s c d g h j lg lh lj e =
    omega (arith, detail_words_differ s c d g h 0 (1 + j) lg lh (omega arith) (omega arith) (omega arith))

-- the places of a queue lie in its channel, behind the state
pub queue_inside : (s : Settings) (side : Side) (c p : ℕ) → Belongs (queue_of s side c) p → (channel_at s c < p) × (p < channel_at s c + stride s)
queue_inside s submission c p b = (grind arith, grind arith)
queue_inside s completion c p b = (grind arith, grind arith)

sides_apart : (s : Settings) (c p : ℕ) → Belongs (submission_of s c) p → Belongs (completion_of s c) p → ⊥
sides_apart s c p a b = grind arith

-- queues of one channel on different sides
other_side : (s : Settings) (x y : Side) (c p : ℕ) → x ≢ y → Belongs (queue_of s x c) p → Belongs (queue_of s y c) p → ⊥
other_side s submission submission c p ne a b = ne refl
other_side s submission completion c p ne a b = sides_apart s c p a b
other_side s completion submission c p ne a b = sides_apart s c p b a
other_side s completion completion c p ne a b = ne refl

pub queues_apart : (s : Settings) (x y : Side) (c d p : ℕ) → (x ≢ y) ⊎ (c ≢ d) → Belongs (queue_of s x c) p → Belongs (queue_of s y d) p → ⊥
queues_apart s x y c d p ne a b =
    let in_c = queue_inside s x c p a in
    let in-d = queue_inside s y d p b in
    ⊎_elim
    (λ (e : c ≡ d).
    ⊎_elim
    (λ (n : x ≢ y). other_side s x y c p n a (subst (λ (k : ℕ). Belongs (queue_of s y k) p) (sym e) b))
    (λ (n : c ≢ d). n e)
    ne)
    (⊎_elim
    (λ (l : c < d). omega (arith, channels_apart s c d l))
    (λ (l : d < c). omega (arith, channels_apart s d c l)))
    (cases_order c d)

pub queues_placed : (s : Settings) → Limits s → (side : Side) (c : ℕ) → c < channels s → Placed (queue_of s side c)
queues_placed s l submission c h = let few = channel_small s l c (omega arith) in (omega arith, omega arith, omega arith)
queues_placed s l completion c h = let few = channel_small s l c (omega arith) in (omega arith, omega arith, omega arith)
