-- The port state of a connection, and the word that states it.
use Rattle.std.specs.Prelude.{◌≡◌, ℕ, true, false, Result, MatchResult}
use Rattle.connection_words.specs.declared.port_state.PortState.{PortState}
use Rattle.connection_words.specs.declared.port_state.PortState.TheVariants as state
use Rattle.connection_words.specs.declared.port_state.UnknownPortState.{UnknownPortState}
use Rattle.connection_words.specs.Soundness.{port_state}

abbrev pub state_word : PortState → ℕ
state_word state.Neither = 0
state_word state.Sender = 1
state_word state.Receiver = 2
state_word state.Both = 3
state_word state.MarkedForDestruction = 128

-- the state that a word states, or an error with the word, where it states none
abbrev pub Decodes : ℕ → Result PortState UnknownPortState → Type 0
Decodes word result =
    MatchResult result (λ s. (state_word s ≡ word) × (port_state word ≡ true)) (λ e. (e.0 ≡ word) × (port_state word ≡ false))
