use Rattle.std.proofs.Common.{ap, ◌∙◌}
use Rattle.connection_words.specs.Settings.{raised}
use Rattle.connection_ports.specs.declared.port.Port.{Port}
use Rattle.connection_ports.specs.Creation.{creation_refusal}
use Rattle.history_run.proofs.Opening.{other_some, opened_to}
use Rattle.history_run.proofs.ports.create_ports.Goals as goal

pub unreachable-requires : goal.unreachable-requires
unreachable-requires g c =
    let b = c.args.builder.now in
    let s = raised b.settings in
    let condition = g.S.DynamicStorage.condition c.create.new.storage in
    let words = g.S.DynamicStorage.words c.create.new.storage in
    other_some c.args.first b.settings b.initial_channel_state.0 _ _ _ _ c.requires c.in_ok-one.ensures.creation.answer c.create.ensures.creation.condition c.create.ensures.creation.words _
    (c.in_default.ensures.creation.answer ∙ ap (λ (p : Port). creation_refusal p s condition words) c.other.ensures)

pub returns-in-Sender-clause-leaves : goal.returns-in-Sender-clause-leaves
returns-in-Sender-clause-leaves g c =
    let b = c.args.builder.now in
    opened_to c.args.first b.settings b.initial_channel_state.0 _ _ _ _ c.requires c.in_ok-one.ensures.creation.answer
    c.create.ensures.creation.condition c.create.ensures.creation.words _ _ (rw (← c.other.ensures) c.create-2.ensures.creation.condition) (rw (← c.other.ensures) c.create-2.ensures.creation.words)

pub returns-in-Receiver-clause-leaves : goal.returns-in-Receiver-clause-leaves
returns-in-Receiver-clause-leaves g c =
    let b = c.args.builder.now in
    opened_to c.args.first b.settings b.initial_channel_state.0 _ _ _ _ c.requires c.in_ok-one.ensures.creation.answer
    c.create.ensures.creation.condition c.create.ensures.creation.words _ _ (rw (← c.other.ensures) c.create-2.ensures.creation.condition) (rw (← c.other.ensures) c.create-2.ensures.creation.words)
