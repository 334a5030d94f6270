use Rattle.connection_words.specs.Places.{channel_at, detail_at}
use Rattle.connection_words.proofs.layout.Layout.detail_place.Goals as goal

pub returns : goal.returns
unfolding channel_at detail_at
returns c = cc
