use Rattle.connection_ports.proofs.Leaving.{refusals_leave}
use Rattle.connection_ports.proofs.laws.port_refusals_leave.Goals as goal

pub returns : goal.returns
returns c = refusals_leave
