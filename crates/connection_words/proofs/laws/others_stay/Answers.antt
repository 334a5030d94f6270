use Rattle.connection_words.proofs.Others.{others_stay}
use Rattle.connection_words.proofs.laws.others_stay.Goals as goal

pub returns : goal.returns
returns c = others_stay
