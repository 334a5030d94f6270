use Rattle.blocking_send.proofs.Falls.{waits_end}
use Rattle.blocking_send.proofs.laws.waits_end.Goals as goal

pub returns : goal.returns
returns c = waits_end
