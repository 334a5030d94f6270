use Rattle.history.proofs.Example.{met}
use Rattle.history.proofs.guarantee.guarantee_is_met.Goals as goal

pub returns : goal.returns
returns c = met
