use Rattle.blocking_send.proofs.Leaves.{steps_leave}
use Rattle.blocking_send.proofs.laws.steps_leave.Goals as goal

pub returns : goal.returns
returns c = steps_leave
