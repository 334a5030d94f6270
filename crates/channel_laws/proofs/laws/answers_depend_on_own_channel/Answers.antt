use Rattle.channel_laws.proofs.Agrees.{own_channel_decides}
use Rattle.channel_laws.proofs.laws.answers_depend_on_own_channel.Goals as goal

pub returns : goal.returns
returns c = own_channel_decides
