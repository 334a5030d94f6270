use Rattle.std.proofs.Common.{rules, tests, ◌≡◌, ℕ, List, length, arith}
use Rattle.std.proofs.lemmas.Iterator.{items_from_collect, YieldsList-from_range}
use Rattle.std.specs.Iterator.Adapters.{map_while_source, map_while_callee}
use Rattle.dynamic_storage.specs.Meaning.{word_at}
use Rattle.session.proofs.Listing.{YieldsList-from_map_while, read_each}
use Rattle.session.proofs.performing.list_words.Goals as goal

pub returns : goal.returns
returns g c =
    let words : List ℕ = g.S.DynamicStorage.words c.args.storage.now in
    let places : c.map_while.result.iter ≡ record { start = 0; end = length words } = search rules in
    items_from_collect c.collect.result c.collect.ensures.ran
    (YieldsList-from_map_while map_while_source map_while_callee _ (word_at words) words
    (YieldsList-from_range 0 (length words) (length words) places (omega arith))
    c.map_while.ensures.closure
    (λ x r q k. search (rules, tests))
    (read_each words))
