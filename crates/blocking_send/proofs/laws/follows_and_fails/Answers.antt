use Rattle.blocking_send.proofs.Follows.{follows_and_fails}
use Rattle.blocking_send.proofs.laws.follows_and_fails.Goals as goal

pub returns : goal.returns
returns c = follows_and_fails
