use Rattle.std.proofs.Common.{◌++◌, map, drop}
use Rattle.std.specs.List.{range_with_len}
use Rattle.dynamic_storage.specs.Changes.{WordsBecome}
use Rattle.connection_ports.specs.Numbers.{bit_of}
use Rattle.connection_ports.specs.Fresh.{fresh_word}
use Rattle.connection_ports.proofs.fresh.Fresh.write_to.Given as goal

abbrev pub invariant-loop-place : goal.invariant-loop-place
invariant-loop-place g l =
    WordsBecome g.S.DynamicStorage l.initial.storage l.storage
    (map (fresh_word l.self.layout.settings l.self.state.0 (bit_of l.self.port)) (range_with_len 0 l.place) ++ drop l.place (g.S.DynamicStorage.words l.initial.storage))
