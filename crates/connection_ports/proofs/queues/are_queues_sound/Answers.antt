use Rattle.std.proofs.Common.{◌≡◌, ◌∙◌, rules, tests, arith}
use Rattle.std.specs.List.{list_all, range_with_len}
use Rattle.std.proofs.lemmas.Iterator.{YieldsList-from_range}
use Rattle.std.proofs.lemmas.Iterator.Search.{all_from_yields_List}
use Rattle.connection_words.specs.Settings.{channels}
use Rattle.connection_ports.proofs.Steps.{sound_at, sound_below}
use Rattle.connection_ports.proofs.queues.are_queues_sound.Goals as goal

pub returns : goal.returns
returns g c =
    let words = g.S.DynamicStorage.words c.args.storage.now in
    let s = c.args.layout.now.settings in
    let n = channels s in
    let all : c.all.result ≡ list_all (sound_at words s n) (range_with_len 0 n) =
    all_from_yields_List (sound_at words s n) _ _ c.all.result c.all.ensures.ran (YieldsList-from_range 0 n n (search rules) (omega arith)) (λ x b q k. search (rules, tests)) in
    all ∙ sound_below words s n n (omega arith)
