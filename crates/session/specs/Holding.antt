-- What a session holds between the calls of a script.
use Rattle.std.specs.Prelude.{IsNone}
use Rattle.session.specs.declared.holding.Session.{Session}

-- neither port
abbrev pub HoldsNoPort : Session → Type 0
HoldsNoPort session = IsNone session.sender × IsNone session.receiver
