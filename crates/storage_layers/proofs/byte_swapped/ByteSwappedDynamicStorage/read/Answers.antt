use Rattle.storage_layers.specs.Layers.{reversed}
use Rattle.storage_layers.proofs.Swapped.{read_reversed}
use Rattle.storage_layers.proofs.byte_swapped.ByteSwappedDynamicStorage.read.Goals as goal

pub returns : goal.returns
unfolding reversed
returns g c = read_reversed _ _ _ _ c.read.ensures c.map.ensures.cases
