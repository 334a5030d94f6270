use Rattle.channel_laws.proofs.Frames.{others_stay}
use Rattle.channel_laws.proofs.laws.other_channels_stay.Goals as goal

pub returns : goal.returns
returns c = others_stay
