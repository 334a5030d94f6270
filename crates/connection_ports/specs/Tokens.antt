-- The tokens of ports.
use Rattle.std.specs.Prelude.{◌≡◌, false}
use Rattle.connection_ports.specs.declared.port.Port.{Port}
use Rattle.connection_ports.specs.declared.port.PortToken.{PortToken}

-- a token of a port that is not closed yet
abbrev pub Open : Port → PortToken → Type 0
Open p token = (token.port ≡ p) × (token.spent ≡ false)
