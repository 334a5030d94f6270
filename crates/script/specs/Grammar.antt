use Rattle.std.specs.Prelude.{ℕ, Bool, true, false, cond, List, [], ◌∷◌, is_some, Some, None, Ok, Err, codes, Option, Result, ◌==◌, nat_lt}
use Prim.Native.String.{String}
use Rattle.std.specs.Str.{bytes_eq}
use Rattle.dynamic_storage.specs.declared.Stage.{Stage}
use Rattle.dynamic_storage.specs.declared.Stage.TheVariants as stages
use Rattle.connection_ports.specs.declared.port.Port.{Port}
use Rattle.connection_ports.specs.declared.port.Port.TheVariants as ports
use Rattle.connection_words.specs.declared.settings.Settings.{Settings}
use Rattle.script.specs.declared.call.Backing.{Backing}
use Rattle.script.specs.declared.call.Backing.TheVariants as backings
use Rattle.script.specs.declared.call.Frame.{Frame}
use Rattle.script.specs.declared.call.Pile.{Pile}
use Rattle.script.specs.declared.call.StateWord.{StateWord}
use Rattle.script.specs.declared.call.StateWord.TheVariants as states
use Rattle.script.specs.declared.call.Call.{Call}
use Rattle.script.specs.declared.call.Call.TheVariants as calls
use Rattle.script.specs.declared.call.Line.{Line}
use Rattle.script.specs.declared.call.Line.TheVariants as lines
use Rattle.script.specs.declared.call.Expected.{Expected}
use Rattle.script.specs.declared.call.Expected.TheVariants as expected
use Rattle.script.specs.Numbers.{number_of}

-- reads something at the front of the words of a line, and gives the words after it
abbrev pub Reader : Type 0 → Type 0
Reader A = List (List ℕ) → Result (A × List (List ℕ)) Expected

-- reads a line to its end
abbrev pub Rest : Type 0 → Type 0
Rest A = List (List ℕ) → Result A Expected

-- a word is a name
abbrev pub is : List ℕ → String → Bool
is w name = bytes_eq w (codes name)

-- goes on with what was read
abbrev pub then : {A B : Type 0} → Result A Expected → (A → Result B Expected) → Result B Expected
then (Ok a) f = f a
then (Err e) f = Err e

-- the end of the line
abbrev pub alone : {A : Type 0} → A → Rest A
alone a [] = Ok a
alone a (w ∷ ws) = Err expected.End

-- one word, of which f tells what it says
abbrev pub word : {A : Type 0} → Expected → (List ℕ → Result A Expected) → Reader A
word e f [] = Err e
word e f (w ∷ ws) = then (f w) (λ a. Ok (a, ws))

-- what a word says, where it says something
abbrev pub from_option : {A : Type 0} → Expected → Option A → Result A Expected
from_option e None = Err e
from_option e (Some a) = Ok a

-- a number
abbrev pub number : Reader ℕ
number ws = word expected.Number (λ w. from_option expected.Number (number_of w)) ws

-- a segment, 0 to 255
abbrev pub segment_in : Option ℕ → Result ℕ Expected
segment_in None = Err expected.Segment
segment_in (Some n) = cond (nat_lt n 256) (Ok n) (Err expected.Segment)

-- the number of a segment
abbrev pub segment : Reader ℕ
segment ws = word expected.Segment (λ w. segment_in (number_of w)) ws

-- the stage that a word names
abbrev pub stage_of : List ℕ → Result Stage Expected
stage_of w = cond (is w "absent") (Ok stages.Absent) (cond (is w "forming") (Ok stages.Forming) (cond (is w "ready") (Ok stages.Ready) (Err expected.Stage)))

-- the port that a word names
abbrev pub port_of : List ℕ → Result Port Expected
port_of w = cond (is w "sender") (Ok ports.Sender) (cond (is w "receiver") (Ok ports.Receiver) (Err expected.Port))

-- a number as a state
abbrev pub state_in : Option ℕ → Result StateWord Expected
state_in None = Err expected.State
state_in (Some n) = Ok (states.Number n)

-- the state that a word writes: `closed` or a number
abbrev pub state_of : List ℕ → Result StateWord Expected
state_of w = cond (is w "closed") (Ok states.Closed) (state_in (number_of w))

-- 0 or 1
abbrev pub overflow_in : Option ℕ → Result Bool Expected
overflow_in None = Err expected.Overflow
overflow_in (Some n) = cond (n == 0) (Ok false) (cond (n == 1) (Ok true) (Err expected.Overflow))

-- whether a full queue gives way
abbrev pub overflow : Reader Bool
overflow ws = word expected.Overflow (λ w. overflow_in (number_of w)) ws

-- the settings by their first five numbers and the overflow
abbrev pub settings_of : ℕ → ℕ → ℕ → ℕ → ℕ → Bool → Settings
settings_of b m n s c o =
    record {
      buffer_size = b;
      max_borrowed_samples_per_channel = m;
      number_of_samples_per_segment = n;
      number_of_segments = s;
      number_of_channels = c;
      enable_safe_overflow = o;
    }

-- the settings of a connection: five numbers and the overflow
abbrev pub settings : Reader Settings
settings ws =
    then (number ws) (λ b. then (number b.1) (λ m. then (number m.1) (λ n. then (number n.1) (λ s. then (number s.1) (λ c.
    then (overflow c.1) (λ o. Ok (settings_of b.0 m.0 n.0 s.0 c.0 o.0, o.1)))))))

-- one number, and no more
abbrev pub one : (ℕ → Call) → Rest Call
one f ws = then (number ws) (λ p. alone (f p.0) p.1)

-- two numbers
abbrev pub two : (ℕ → ℕ → Call) → Rest Call
two f ws = then (number ws) (λ p. one (f p.0) p.1)

-- a number and a segment
abbrev pub number_and_segment : (ℕ → ℕ → Call) → Rest Call
number_and_segment f ws = then (number ws) (λ p. then (segment p.1) (λ q. alone (f p.0 q.0) q.1))

-- a stage
abbrev pub one_stage : (Stage → Call) → Rest Call
one_stage f ws = then (word expected.Stage stage_of ws) (λ p. alone (f p.0) p.1)

-- a port
abbrev pub one_port : (Port → Call) → Rest Call
one_port f ws = then (word expected.Port port_of ws) (λ p. alone (f p.0) p.1)

-- settings and a state
abbrev pub settings_and_state : (Settings → StateWord → Call) → Rest Call
settings_and_state f ws = then (settings ws) (λ p. then (word expected.State state_of p.1) (λ q. alone (f p.0 q.0) q.1))

-- a value sent: an offset, a segment, a size and a channel
abbrev pub sent : Rest Call
sent ws = then (number ws) (λ p. then (segment p.1) (λ q. two (calls.Send p.0 q.0) q.1))

-- a value given back: an offset, a segment and a channel
abbrev pub released : Rest Call
released ws = then (number ws) (λ p. then (segment p.1) (λ q. one (calls.Release p.0 q.0) q.1))

-- keywords, each with what follows it on its line
abbrev pub Table : Type 0
Table = List (String × Rest Call)

-- the lines on the words of a storage
abbrev pub word_lines : Table
word_lines =
    ("length", alone calls.Length)
    ∷ ("words", alone calls.Words)
    ∷ ("read", one calls.Read)
    ∷ ("write", two calls.Write)
    ∷ []

-- the lines on its condition
abbrev pub condition_lines : Table
condition_lines =
    ("condition", alone calls.Condition)
    ∷ ("set_condition", one_stage calls.SetCondition)
    ∷ ("code", one calls.Code)
    ∷ []

-- the lines on addresses
abbrev pub address_lines : Table
address_lines =
    ("offset", one calls.Offset)
    ∷ ("value", number_and_segment calls.Value)
    ∷ []

-- the lines on the ports of a connection
abbrev pub port_lines : Table
port_lines =
    ("settings", settings_and_state calls.Settings)
    ∷ ("create", one_port calls.Create)
    ∷ ("close", one_port calls.Close)
    ∷ ("counters", alone calls.Counters)
    ∷ []

-- the lines on the values that go through a connection
abbrev pub transfer_lines : Table
transfer_lines =
    ("send", sent)
    ∷ ("receive", one calls.Receive)
    ∷ ("release", released)
    ∷ ("reclaim", one calls.Reclaim)
    ∷ ("has_data", one calls.HasData)
    ∷ ("borrow_count", one calls.BorrowCount)
    ∷ []

-- the rest of a line by the row of its keyword k, or else by what other says
abbrev pub by_table : Table → List ℕ → Rest Call → Rest Call
by_table [] k other ws = other ws
by_table (row ∷ rows) k other ws = cond (is k row.0) (row.1 ws) (by_table rows k other ws)

-- the lines on values; no other keyword is known. Shut, so that a proof has one table before it
unfoldable pub transfer_call : List ℕ → Rest Call
transfer_call k ws = by_table transfer_lines k (λ _. Err expected.Keyword) ws

-- the lines on ports, and those after them
unfoldable pub port_call : List ℕ → Rest Call
port_call k ws = by_table port_lines k (transfer_call k) ws

-- the lines on addresses, and those after them
unfoldable pub address_call : List ℕ → Rest Call
address_call k ws = by_table address_lines k (port_call k) ws

-- the lines on the condition, and those after them
unfoldable pub condition_call : List ℕ → Rest Call
condition_call k ws = by_table condition_lines k (address_call k) ws

-- the rest of a line after its keyword k
abbrev pub call : List ℕ → Rest Call
call k ws = by_table word_lines k (condition_call k) ws

-- the storage that a pile stands on
abbrev pub backing : Reader Backing
backing [] = Err expected.Backing
backing (w ∷ ws) =
    cond (is w "words") (then (number ws) (λ p. Ok (backings.Words p.0, p.1)))
    (cond (is w "bytes") (then (number ws) (λ p. Ok (backings.Bytes p.0, p.1)))
    (cond (is w "inner") (Ok (backings.Inner, ws)) (Err expected.Backing)))

-- the place and the length of a window
abbrev pub frame : Reader (Option Frame)
frame ws = then (number ws) (λ p. then (number p.1) (λ q. Ok (Some (record { place = p.0; count = q.0 }), q.1)))

-- a window, where the words begin with one
abbrev pub window : Reader (Option Frame)
window [] = Ok (None, [])
window (w ∷ ws) = cond (is w "window") (frame ws) (Ok (None, w ∷ ws))

-- whether the words begin with `swapped`, and the words after it
abbrev pub swapped : List (List ℕ) → Bool × List (List ℕ)
swapped [] = (false, [])
swapped (w ∷ ws) = cond (is w "swapped") (true, ws) (false, w ∷ ws)

-- the end of the layers
abbrev pub last_layer : Pile → Rest Pile
last_layer p [] = Ok p
last_layer p (w ∷ ws) = Err (cond (is_some p.upper) expected.End expected.Layer)

-- the layers from the swap on
abbrev pub upper_layers : Backing → Option Frame → Bool × List (List ℕ) → Result Pile Expected
upper_layers b f s = then (window s.1) (λ u. last_layer (record { backing = b; lower = f; swapped = s.0; upper = u.0 }) u.1)

-- a storage: the backing, a window, `swapped`, a window, where each layer may be left out
abbrev pub pile : Rest Pile
pile ws = then (backing ws) (λ b. then (window b.1) (λ f. upper_layers b.0 f.0 (swapped f.1)))

-- what a line says
abbrev pub parsed_line : Rest Line
parsed_line [] = Ok lines.Blank
parsed_line (k ∷ ws) = cond (is k "storage") (then (pile ws) (λ p. Ok (lines.Storage p))) (then (call k ws) (λ c. Ok (lines.Call c)))
