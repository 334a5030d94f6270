use Rattle.storage_layers.proofs.Windows.{written_words, written_around}
use Rattle.storage_layers.proofs.window.WindowDynamicStorage.write.Goals as goal

pub returns-clause-words : goal.returns-clause-words
returns-clause-words g c =
    written_words _ _ _ _ _ _ _ c.in-Some.ensures c.write.ensures.words

pub returns-clause-outside : goal.returns-clause-outside
returns-clause-outside g c =
    written_around _ _ _ _ _ _ _ c.in-Some.ensures c.write.ensures.words _ _ _ _ c.write.ensures.condition c.write.ensures.outside
