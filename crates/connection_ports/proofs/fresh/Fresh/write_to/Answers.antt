use Rattle.std.proofs.Common.{◌≡◌, ◌<◌, length, set, ap, ◌∙◌, arith}
use Rattle.connection_ports.specs.Numbers.{bit_of}
use Rattle.connection_ports.specs.Fresh.{fresh_word}
use Rattle.connection_ports.proofs.Steps.{one_more_word}
use Rattle.connection_ports.proofs.fresh.Fresh.write_to.Goals as goal

pub loop-place-preserved : goal.loop-place-preserved
loop-place-preserved g c =
    let fresh = c.args.self.now in
    let words = g.S.DynamicStorage.words c.args.storage.now in
    let f = fresh_word fresh.layout.settings fresh.state.0 (bit_of fresh.port) in
    let place = c.loop-place.place in
    let before = c.loop-place.invariant in
    let less : place < length words = omega (arith, c.words_needed-place-end.ensures, c.requires) in
    let put : g.S.DynamicStorage.words c.put.new.storage ≡ set (g.S.DynamicStorage.words c.loop-place.storage) place (f place) = c.put.ensures.words ∙ ap (λ w. set (g.S.DynamicStorage.words c.loop-place.storage) place w) c.word.ensures in
    record {
      words = one_more_word f words _ _ place less before.words put;
      condition = c.put.ensures.condition ∙ before.condition;
      outside = c.put.ensures.outside ∙ before.outside;
    }
