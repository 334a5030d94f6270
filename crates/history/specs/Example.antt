-- Histories that have all that the guarantee asks for: two channels, evictions, refusals, reclaims until nothing is left, and
-- pending sends. None ends by 28, since both ports are there.
use Rattle.std.specs.Prelude.{◌≡◌, ℕ, ◌-◌, ◌^◌, ◌<◌, Bool, true, false, List, [], ◌∷◌, replicate}
use Rattle.dynamic_storage.specs.declared.condition.Condition.TheVariants.{Absent}
use Rattle.connection_words.specs.declared.settings.Settings.{Settings}
use Rattle.connection_words.specs.Settings.{channels}
use Rattle.connection_words.specs.Laws.{settings_with}
use Rattle.connection_ports.specs.declared.port.Port.TheVariants as port
use Rattle.zero_copy_connection.specs.Answers.{refused, nothing, value, flag, number}
use Rattle.blocking_send.specs.declared.action.BackpressureToReceiverAction.TheVariants.{FollowBackpressureyStrategy, Retry, DiscardPointerOffset, DiscardPointerOffsetAndFail}
use Rattle.blocking_send.specs.Waits.{Pending, begun, later, goes, ends}
use Rattle.channel_laws.specs.Calls.{State, state_of, sends, receives, releases, reclaims, asks_data, asks_count}
use Rattle.channel_laws.specs.Readings.{settings}
use Rattle.history.specs.Events.{Event, made, stepped, leaves, Runs}
use Rattle.history.specs.Books.{books, unused, Along}
use Rattle.history.specs.Guarantee.{Fresh, created, Chunk, held_chunks, NamesLoan, Paced}

-- a buffer of one, one borrowed, two samples, one segment, two channels, with or without overflow
abbrev pub small : Bool → Settings
small overflow = settings_with 1 1 2 1 2 overflow

-- an absent storage of 40 words, of which the connection needs 32
abbrev pub blank : State
blank = state_of Absent (replicate 40 7) []

-- the receiver is created with this state for the channels, and then the sender
abbrev pub begin : Bool → ℕ → State
begin overflow state = created port.Sender (small overflow) 5 (created port.Receiver (small overflow) state blank)

abbrev pub open_state : ℕ
open_state = 0

abbrev pub closed_state : ℕ
closed_state = 2 ^ 64 - 1

-- the values of the two chunks of segment 0, where samples have 64 bytes
abbrev pub zeroth : ℕ
zeroth = 0

abbrev pub first : ℕ
first = 16384

-- with overflow: an eviction by a send, and by the first step of a pending send
abbrev pub evicting : List Event
evicting =
    made (sends zeroth 64 0) nothing
    ∷ made (sends zeroth 64 0) (refused 26)
    ∷ made (reclaims 0) nothing
    ∷ made (sends first 64 1) nothing
    ∷ made (sends first 64 0) (value zeroth)
    ∷ made (receives 0) (value first)
    ∷ made (reclaims 0) nothing
    ∷ made (sends zeroth 64 0) nothing
    ∷ made (receives 0) (refused 40)
    ∷ made (asks_count 0) (number 1)
    ∷ made (releases first 0) nothing
    ∷ made (receives 0) (value zeroth)
    ∷ made (reclaims 0) (value first)
    ∷ made (reclaims 0) nothing
    ∷ made (sends zeroth 64 2) (refused 51)
    ∷ made (receives 1) (value first)
    ∷ made (asks_data 1) (flag false)
    ∷ made (releases first 1) nothing
    ∷ made (reclaims 1) (value first)
    ∷ made (reclaims 1) nothing
    ∷ stepped (begun zeroth 64 1 Retry 0) Retry (ends nothing)
    ∷ made (reclaims 1) nothing
    ∷ stepped (begun first 64 1 Retry 0) Retry (ends (value zeroth))
    ∷ []

-- a pending send on channel 0 before and after it was told to retry
abbrev pub retrying : ℕ → Pending
retrying v = begun v 64 0 DiscardPointerOffset 1

abbrev pub retried : ℕ → Pending
retried v = later (retrying v) 1 false

-- one whose strategy is to retry, before and after it was told to follow it, and a step later
abbrev pub following : ℕ → Pending
following v = begun v 64 0 Retry 2

abbrev pub followed_once : ℕ → Pending
followed_once v = later (following v) 1 true

abbrev pub followed_twice : ℕ → Pending
followed_twice v = later (followed_once v) 1 true

-- one whose strategy is to fail
abbrev pub failing : ℕ → Pending
failing v = begun v 64 0 DiscardPointerOffsetAndFail 1

-- without overflow: pending sends that end at once, later when there is room, and by the refusals 31, 30, 20, 26 and 51
abbrev pub pending : List Event
pending =
    stepped (retrying zeroth) Retry (ends nothing)
    ∷ made (reclaims 0) nothing
    ∷ stepped (retrying first) Retry (goes (retried first))
    ∷ stepped (retried first) Retry (ends (refused 31))
    ∷ stepped (retrying first) DiscardPointerOffsetAndFail (ends (refused 30))
    ∷ stepped (failing first) FollowBackpressureyStrategy (ends (refused 30))
    ∷ stepped (retrying first) DiscardPointerOffset (ends (refused 20))
    ∷ stepped (retrying first) FollowBackpressureyStrategy (ends (refused 20))
    ∷ stepped (following first) FollowBackpressureyStrategy (goes (followed_once first))
    ∷ stepped (followed_once first) DiscardPointerOffset (goes (followed_twice first))
    ∷ made (receives 0) (value zeroth)
    ∷ stepped (retrying zeroth) Retry (ends (refused 26))
    ∷ stepped (followed_twice first) Retry (ends nothing)
    ∷ made (releases zeroth 0) nothing
    ∷ made (reclaims 0) (value zeroth)
    ∷ made (reclaims 0) nothing
    ∷ stepped (retrying zeroth) Retry (goes (retried zeroth))
    ∷ made (receives 0) (value first)
    ∷ stepped (retried zeroth) Retry (ends nothing)
    ∷ stepped (begun zeroth 64 2 Retry 1) Retry (ends (refused 51))
    ∷ []

-- on closed channels: a pending send ends by 29 where there is no room
abbrev pub refusing : List Event
refusing =
    stepped (retrying zeroth) Retry (ends nothing)
    ∷ stepped (retrying first) Retry (ends (refused 29))
    ∷ []

-- the state that a list of events leaves
abbrev pub ended : State → List Event → State
ended t [] = t
ended t (e ∷ es) = ended (leaves t e) es

-- a history runs from a fresh connection, and both channels meet all premises
pub record Met (t : State) (es : List Event) : Type 0 where
  pub fresh : Fresh t
  pub two : channels (settings t) ≡ 2
  pub runs : Runs t es (ended t es)
  pub names : (c : ℕ) → c < 2 → Along NamesLoan c unused es
  pub paced : (c : ℕ) → c < 2 → Along Paced c unused es

-- what the books of channel 0 say of a history in the end
pub record Said (es : List Event) (accepted evicted received : List ℕ) (chunks : List Chunk) : Type 0 where
  pub accepts : (books 0 es).accepted ≡ accepted
  pub evicts : (books 0 es).evicted ≡ evicted
  pub receives : (books 0 es).received ≡ received
  pub holds : held_chunks (books 0 es) ≡ chunks

pub record GuaranteeMet : Type 0 where
  pub evicting_met : Met (begin true open_state) evicting
  pub evicting_said : Said evicting (zeroth ∷ first ∷ zeroth ∷ []) (zeroth ∷ []) (first ∷ zeroth ∷ []) ((0, 0) ∷ [])
  pub pending_met : Met (begin false open_state) pending
  pub pending_said : Said pending (zeroth ∷ first ∷ zeroth ∷ []) [] (zeroth ∷ first ∷ []) ((0, 0) ∷ (0, 1) ∷ [])
  pub refusing_met : Met (begin false closed_state) refusing
  pub refusing_said : Said refusing (zeroth ∷ []) [] [] ((0, 0) ∷ [])
  -- values that are received, released or reclaimed and were not there are collected as missing
  pub missing_received : (books 0 (made (receives 0) (value first) ∷ [])).missing ≡ first ∷ []
  pub missing_released : (books 0 (made (releases first 0) nothing ∷ [])).missing ≡ first ∷ []
  pub missing_reclaimed : (books 0 (made (reclaims 0) (value first) ∷ [])).missing ≡ first ∷ []
