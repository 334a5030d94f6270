use Rattle.std.proofs.Common.{◌≡◌, true, get_or, ◌∙◌, refl, false, rules}
use Rattle.connection_words.specs.PortStates.{state_word}
use Rattle.connection_words.specs.Soundness.{port_state}
use Rattle.connection_ports.specs.Creation.{whole}
use Rattle.connection_ports.proofs.Joins.{join_mismatch, whole_port}
use Rattle.connection_ports.proofs.Steps.{some_is, some_true}
use Rattle.connection_ports.proofs.creation.check_join.Goals as goal

pub returns-in_err-state-clause-answer : goal.returns-in_err-state-clause-answer
returns-in_err-state-clause-answer g c =
    let k = g.S.DynamicStorage.condition c.args.storage.now in
    let words = g.S.DynamicStorage.words c.args.storage.now in
    let sound : whole k words ≡ true = some_true _ _ _ c.in-Some.ensures in
    let port = whole_port k words sound in
    let none : port_state c.word.result ≡ false = c.in_err-state.ensures.1 in
    cc (none, c.word.ensures, port)

pub returns-in_err-compare-clause-answer : goal.returns-in_err-compare-clause-answer
returns-in_err-compare-clause-answer g c =
    let k = g.S.DynamicStorage.condition c.args.storage.now in
    let words = g.S.DynamicStorage.words c.args.storage.now in
    let sound : whole k words ≡ true = some_true _ _ _ c.in-Some.ensures in
    let at : state_word c.in_ok-state.state ≡ get_or words 0 0 = c.in_ok-state.ensures.0 ∙ c.word.ensures in
    join_mismatch c.args.port c.args.settings _ k words _ _ _ sound (c.settings.ensures ∙ some_is _ _ _ c.in-Some.ensures) at refl c.in_ok-joined.ensures.answer (search rules)
