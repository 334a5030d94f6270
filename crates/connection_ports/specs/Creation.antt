-- When the creation of a port is refused, and what it leaves.
use Rattle.std.specs.Prelude.{◌≡◌, ℕ, zero, suc, ◌+◌, Bool, true, false, cond, not, ◌&&◌, ◌||◌, List, length, Some, None, Ok, Err, Option, Result, ◌==◌, nat_lt, slice_index, slice_set}
use Rattle.dynamic_storage.specs.declared.DynamicStorage.{Ghosts}
use Rattle.dynamic_storage.specs.declared.condition.Condition.{Condition}
use Rattle.dynamic_storage.specs.declared.condition.Condition.TheVariants.{Absent, Forming, Ready, Broken, OtherVersion}
use Rattle.connection_words.specs.declared.settings.Settings.{Settings}
use Rattle.connection_words.specs.Settings.{buffer, borrowed, samples, segments, channels, raised, too_large}
use Rattle.connection_words.specs.Places.{needed}
use Rattle.connection_words.specs.Soundness.{sound, settings_of}
use Rattle.connection_words.specs.Queues.{channel_sound}
use Rattle.connection_ports.specs.declared.error.DynamicStorageOpenError.{DynamicStorageOpenError}
use Rattle.connection_ports.specs.declared.error.DynamicStorageOpenError.TheVariants as fault
use Rattle.connection_ports.specs.declared.error.ZeroCopyCreationError.{ZeroCopyCreationError}
use Rattle.connection_ports.specs.declared.port.Entry.{Entry}
use Rattle.connection_ports.specs.declared.port.Entry.TheVariants as entry
use Rattle.connection_ports.specs.declared.port.Port.{Port}
use Rattle.connection_ports.specs.declared.port.Port.TheVariants as port
use Rattle.connection_ports.specs.Numbers.{creation_number, refused_by, fault_of, bit_of}
use Rattle.connection_ports.specs.Fresh.{fresh_words}

-- the queues of the first n channels are sound
abbrev pub queues_sound : List ℕ → Settings → ℕ → Bool
queues_sound words s zero = true
queues_sound words s (suc n) = queues_sound words s n && channel_sound words s n

-- the connection is sound with all its queues
unfoldable pub whole : Condition → List ℕ → Bool
whole condition words = sound condition words && queues_sound words (settings_of words) (channels (settings_of words))

-- whether a port state has the bit of a port
abbrev pub holds : Port → ℕ → Bool
holds port.Sender state = state == 1 || state == 3
holds port.Receiver state = state == 2 || state == 3

-- two settings that are on or off
abbrev pub same : Bool → Bool → Bool
same true b = b
same false b = not b

-- the first setting that differs
abbrev pub mismatch : Settings → Settings → Option ℕ
mismatch asked found =
    cond (not (buffer asked == buffer found)) (Some 9)
    (cond (not (borrowed asked == borrowed found)) (Some 10)
    (cond (not (same asked.enable_safe_overflow found.enable_safe_overflow)) (Some 11)
    (cond (not (samples asked == samples found)) (Some 12)
    (cond (not (segments asked == segments found)) (Some 13)
    (cond (not (channels asked == channels found)) (Some 14) None)))))

-- why an existing connection is not joined
abbrev pub join_refusal : Port → Settings → Condition → List ℕ → Option ℕ
join_refusal p s condition words =
    cond (not (whole condition words)) (Some 6)
    (cond (holds p (slice_index words 0)) (Some 7)
    (cond (slice_index words 0 == 128) (Some 8) (mismatch s (settings_of words))))

-- why an absent storage is not set up
abbrev pub room_refusal : Settings → List ℕ → Option ℕ
room_refusal s words = cond (nat_lt (length words) (needed s)) (Some 2) None

-- why a port is not created, by the condition of the storage
abbrev pub refusal_at : Condition → Port → Settings → List ℕ → Option ℕ
refusal_at Absent p s words = room_refusal s words
refusal_at Forming p s words = Some 3
refusal_at Ready p s words = join_refusal p s Ready words
refusal_at Broken p s words = Some 5
refusal_at OtherVersion p s words = Some 4

-- why a port is not created, by its number; s are the settings with each 0 raised to 1
abbrev pub creation_refusal : Port → Settings → Condition → List ℕ → Option ℕ
creation_refusal p s condition words = cond (too_large s) (Some 1) (refusal_at condition p s words)

-- the fault of a storage that is neither absent nor ready
abbrev pub storage_fault : Condition → Option DynamicStorageOpenError
storage_fault Absent = None
storage_fault Forming = Some fault.InitializationNotYetFinalized
storage_fault Ready = None
storage_fault Broken = Some fault.InternalError
storage_fault OtherVersion = Some fault.VersionMismatch

-- the fault of the storage that comes with the refusal
abbrev pub creation_fault : Settings → Condition → Option DynamicStorageOpenError
creation_fault s condition = cond (too_large s) None (storage_fault condition)

-- how a storage is entered: an absent one is set up, a ready one is joined
abbrev pub entry_of : Condition → Result Entry DynamicStorageOpenError
entry_of Absent = Ok entry.SetUp
entry_of Forming = Err fault.InitializationNotYetFinalized
entry_of Ready = Ok entry.Join
entry_of Broken = Err fault.InternalError
entry_of OtherVersion = Err fault.VersionMismatch

-- the port's bit more
abbrev pub joined : Port → List ℕ → List ℕ
joined p words = slice_set words 0 (slice_index words 0 + bit_of p)

-- the words after a creation that is not refused: fresh ones on an absent storage, the port's bit more on a ready one
abbrev pub words_with : Condition → Port → Settings → ℕ → List ℕ → List ℕ
words_with Absent p s state words = fresh_words s state (bit_of p) words
words_with Forming p s state words = words
words_with Ready p s state words = joined p words
words_with Broken p s state words = words
words_with OtherVersion p s state words = words

-- what is left: a where nothing is refused, and else b
abbrev pub unless : {A : Type 0} → Option ℕ → A → A → A
unless (Some n) b a = b
unless None b a = a

abbrev pub creation_words : Port → Settings → ℕ → Condition → List ℕ → List ℕ
creation_words p s state condition words = unless (creation_refusal p s condition words) words (words_with condition p s state words)

abbrev pub creation_condition : Port → Settings → Condition → List ℕ → Condition
creation_condition p s condition words = unless (creation_refusal p s condition words) condition Ready

-- a port was created over a storage, or refused, where these settings and this state of the channels were asked for
pub record Creates {A S : Type 0} (of : Ghosts S) (p : Port) (s : Settings) (state : ℕ) (before after : S) (result : Result A ZeroCopyCreationError) : Type 0 where
  pub answer : refused_by creation_number result ≡ creation_refusal p (raised s) (of.condition before) (of.words before)
  pub fault : fault_of result ≡ creation_fault (raised s) (of.condition before)
  pub words : of.words after ≡ creation_words p (raised s) state (of.condition before) (of.words before)
  pub condition : of.condition after ≡ creation_condition p (raised s) (of.condition before) (of.words before)
  pub outside : of.outside after ≡ of.outside before
