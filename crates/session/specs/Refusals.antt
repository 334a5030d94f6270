-- The number and the text of what refuses a call of a script.
use Rattle.std.specs.Prelude.{ℕ, List, ◌++◌, codes}
use Rattle.std.specs.Fmt.{decimal}
use Rattle.answers.specs.Names.{name_of}
use Rattle.connection_ports.specs.Numbers.{creation_number, close_number, state_number}
use Rattle.zero_copy_connection.specs.Numbers.{channel_number, send_number, receive_number, release_number, reclaim_number}
use Rattle.session.specs.declared.refusal.Refusal.{Refusal}
use Rattle.session.specs.declared.refusal.Refusal.TheVariants.{State, Creation, Close, Send, Receive, Release, Reclaim, Channel}

-- the number of a refusal
abbrev pub refusal_number : Refusal → ℕ
refusal_number (State error) = state_number error
refusal_number (Creation error) = creation_number error
refusal_number (Close error) = close_number error
refusal_number (Send error) = send_number error
refusal_number (Receive error) = receive_number error
refusal_number (Release error) = release_number error
refusal_number (Reclaim error) = reclaim_number error
refusal_number (Channel error) = channel_number error

-- the number of a refusal and its name
abbrev pub refusal_text : Refusal → List ℕ
refusal_text refusal = decimal (refusal_number refusal) ++ (codes " " ++ name_of (refusal_number refusal))
