use Rattle.std.proofs.Common.{arith}
use Rattle.storage_layers.specs.Layers.{reversed}
use Rattle.storage_layers.proofs.Swapped.{map_written}
use Rattle.storage_layers.proofs.byte_swapped.ByteSwappedDynamicStorage.write.Goals as goal

pub returns-clause-words : goal.returns-clause-words
unfolding reversed
returns-clause-words g c =
    rw (c.write.ensures.words, c.swap_bytes.ensures) (map_written (g.S.DynamicStorage.words c.args.self.now.below) c.args.place c.args.word (omega arith))
