use Rattle.std.proofs.Common.{◌∙◌}
use Rattle.connection_ports.proofs.Enters.{entered_answer, entered_words, entered_condition, entered_fault}
use Rattle.connection_ports.proofs.builder.Builder.create.Goals as goal

pub returns-in-Join-clause-creation : goal.returns-in-Join-clause-creation
returns-in-Join-clause-creation g c =
    let words = g.S.DynamicStorage.words c.args.storage.now in
    record {
      answer = c.join.ensures.answer ∙ entered_answer c.args.port _ _ _ _ _ _ _ words c.raised.ensures c.in-Some.ensures c.settings.ensures c.in-Join.is c.in_ok-entry_of.ensures c.condition.ensures;
      fault = c.join.ensures.fault ∙ entered_fault c.args.port _ _ _ _ _ _ _ words c.raised.ensures c.in-Some.ensures c.settings.ensures c.in-Join.is c.in_ok-entry_of.ensures c.condition.ensures;
      words = c.join.ensures.storage.words ∙ entered_words c.args.port _ _ _ _ _ _ _ words c.raised.ensures c.in-Some.ensures c.settings.ensures c.in-Join.is c.in_ok-entry_of.ensures c.condition.ensures c.args.self.now.initial_channel_state.0;
      condition = c.join.ensures.storage.condition ∙ entered_condition c.args.port _ _ _ _ _ _ _ words c.raised.ensures c.in-Some.ensures c.settings.ensures c.in-Join.is c.in_ok-entry_of.ensures c.condition.ensures;
      outside = c.join.ensures.storage.outside;
    }
