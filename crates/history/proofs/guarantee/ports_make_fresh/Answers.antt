use Rattle.history.proofs.Created.{fresh_created}
use Rattle.history.proofs.guarantee.ports_make_fresh.Goals as goal

pub returns : goal.returns
returns c = fresh_created
