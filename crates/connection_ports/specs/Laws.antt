-- What is proved of creating and closing ports as a whole.
use Rattle.std.specs.Prelude.{◌≡◌, ℕ, ◌≤◌, Bool, false, cond, List, length, Some, None, Option}
use Rattle.dynamic_storage.specs.declared.condition.Condition.{Condition}
use Rattle.dynamic_storage.specs.declared.condition.Condition.TheVariants.{Absent, Ready}
use Rattle.connection_words.specs.declared.settings.Settings.{Settings}
use Rattle.connection_words.specs.Settings.{too_small, too_large}
use Rattle.connection_words.specs.Places.{needed}
use Rattle.connection_words.specs.Soundness.{sound}
use Rattle.connection_words.specs.Laws.{settings_with}
use Rattle.connection_ports.specs.declared.port.Port.{Port}
use Rattle.connection_ports.specs.declared.port.Port.TheVariants as port
use Rattle.connection_ports.specs.Numbers.{bit_of}
use Rattle.connection_ports.specs.Fresh.{fresh_words}
use Rattle.connection_ports.specs.Creation.{creation_refusal, creation_words, creation_condition}
use Rattle.connection_ports.specs.Closing.{closed_words, closed_condition}

-- a call on a port: it is created, with settings and a state for the channels, or closed
pub data PortCall : Type 0 where
  creates : Port → Settings → ℕ → PortCall
  closes : Port → PortCall

abbrev pub port_refusal : PortCall → Condition → List ℕ → Option ℕ
port_refusal (creates p s state) condition words = creation_refusal p s condition words
port_refusal (closes p) condition words = cond (sound condition words) None (Some 50)

abbrev pub port_words : PortCall → Condition → List ℕ → List ℕ
port_words (creates p s state) condition words = creation_words p s state condition words
port_words (closes p) condition words = closed_words (bit_of p) condition words

abbrev pub port_condition : PortCall → Condition → List ℕ → Condition
port_condition (creates p s state) condition words = creation_condition p s condition words
port_condition (closes p) condition words = closed_condition (bit_of p) condition words

-- a refusal leaves all words and the condition as they were
abbrev pub RefusalsLeave : Type 0
RefusalsLeave =
    (call : PortCall) (condition : Condition) (words : List ℕ) (n : ℕ)
    → port_refusal call condition words ≡ Some n
    → (port_words call condition words ≡ words) × (port_condition call condition words ≡ condition)

abbrev pub other : Port → Port
other port.Sender = port.Receiver
other port.Receiver = port.Sender

-- whichever port is created first over an absent storage with room, both are accepted, and the words are the same
pub record BothOrders (s : Settings) (state : ℕ) (words : List ℕ) : Type 0 where
  pub first : (p : Port) → creation_refusal p s Absent words ≡ None
  pub second : (p : Port) → creation_refusal (other p) s Ready (creation_words p s state Absent words) ≡ None
  pub same : (p : Port) → creation_words (other p) s state Ready (creation_words p s state Absent words) ≡ fresh_words s state 3 words

abbrev pub OrdersAgree : Type 0
OrdersAgree =
    (s : Settings) (state : ℕ) (words : List ℕ) → too_small s ≡ false → too_large s ≡ false → needed s ≤ length words → BothOrders s state words

-- a connection with one channel, one segment of eight samples, a buffer of one and one borrowed takes 26 words
pub record SmallRoom : Type 0 where
  pub refused : (p : Port) (overflow : Bool) (words : List ℕ) → length words ≡ 25 → creation_refusal p (settings_with 1 1 8 1 1 overflow) Absent words ≡ Some 2
  pub accepted : (p : Port) (overflow : Bool) (words : List ℕ) → length words ≡ 26 → creation_refusal p (settings_with 1 1 8 1 1 overflow) Absent words ≡ None
