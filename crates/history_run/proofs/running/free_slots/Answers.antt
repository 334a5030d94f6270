use Rattle.std.proofs.Common.{None, rules, tests}
use Rattle.std.proofs.lemmas.Iterator.{items_from_collect, YieldsList-from_map, YieldsList-from_range}
use Rattle.history_run.proofs.running.free_slots.Goals as goal

pub returns : goal.returns
returns c =
    items_from_collect c.collect.result c.collect.ensures.ran
    (YieldsList-from_map _ (λ _. None) (YieldsList-from_range 0 64 64 (search rules) (search rules)) c.map.ensures.closure (λ x r q k. search (rules, tests)))
