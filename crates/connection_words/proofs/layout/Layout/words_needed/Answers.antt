use Rattle.std.proofs.Common.{◌∙◌}
use Rattle.connection_words.proofs.Apart.{details_end}
use Rattle.connection_words.proofs.layout.Layout.words_needed.Goals as goal

pub returns : goal.returns
returns c = c.detail_place.ensures ∙ details_end c.args.self.now.settings
