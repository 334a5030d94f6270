use Rattle.std.proofs.Common.{◌≡◌, true, get_or, set, ap, ◌∙◌}
use Rattle.connection_words.specs.Soundness.{sound}
use Rattle.connection_words.specs.PortStates.{state_word}
use Rattle.connection_ports.specs.Numbers.{bit_of}
use Rattle.connection_ports.specs.Closing.{state_without, state_left}
use Rattle.connection_ports.proofs.Closes.{words_left, condition_left}
use Rattle.connection_ports.proofs.Steps.{some_true}
use Rattle.connection_ports.proofs.closing.close.Goals as goal

pub returns : goal.returns
returns g c =
    let words = g.S.DynamicStorage.words c.args.storage.now in
    let k = g.S.DynamicStorage.condition c.args.storage.now in
    let bit = bit_of c.args.token.port in
    let left = state_word c.leaves-left.result in
    let good : sound k words ≡ true = some_true _ _ _ c.in-Some.ensures in
    let at : state_word c.in_ok-state.state ≡ get_or words 0 0 = c.in_ok-state.ensures.0 ∙ c.word.ensures in
    let is : left ≡ state_left bit words = c.leaves-left.ensures ∙ ap (state_without bit) at in
    record {
      answer = rw good;
      state = is;
      words = words_left bit left k words good is _ (c.settle.ensures.words ∙ (c.put.ensures.words ∙ ap (set words 0) c.from.ensures));
      condition = condition_left bit left k words good is _ _ c.put.ensures.condition c.settle.ensures.condition;
      outside = c.settle.ensures.outside ∙ c.put.ensures.outside;
    }
