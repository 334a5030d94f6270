use Rattle.std.proofs.Common.{◌≡◌, ◌+◌, ◌*◌, arith}
use Rattle.connection_words.specs.Places.{stride, channel_at}
use Rattle.connection_words.proofs.Bounds.{strides_few}
use Rattle.connection_words.proofs.layout.Layout.channel_place.Goals as goal

pub returns : goal.returns
unfolding channel_at
returns c =
    let s = c.args.self.now.settings in
    let few = strides_few s c.args.self.now.limits c.args.index c.requires in
    let same : c.args.index * c.stride.result ≡ c.args.index * stride s = cc in
    record { place = cc; small = omega arith }
