use Rattle.channel_laws.proofs.Refusals.{refusals_leave}
use Rattle.channel_laws.proofs.laws.refusals_leave.Goals as goal

pub returns : goal.returns
returns c = refusals_leave
