use Rattle.std.proofs.Common.{rules}
use Rattle.connection_ports.specs.Creation.{whole}
use Rattle.connection_ports.proofs.queues.whole_layout_of.Goals as goal

pub returns-in_err-layout : goal.returns-in_err-layout
unfolding whole
returns-in_err-layout g c = search rules

pub returns : goal.returns
unfolding whole
returns g c = search rules
