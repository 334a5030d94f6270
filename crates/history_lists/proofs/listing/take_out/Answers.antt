use Rattle.std.proofs.Common.{◌≡◌, cond, eqb, ltb, length, Some, None, sym, ◌∙◌, rules, tests}
use Rattle.std.proofs.lemmas.Iterator.{YieldsList-from_slice}
use Rattle.std.proofs.lemmas.Iterator.Search.{position_from_yields_List}
use Rattle.history_lists.proofs.Strikes.{first, without_found, without_absent}
use Rattle.history_lists.proofs.listing.take_out.Goals as goal

pub returns-in-Some-position : goal.returns-in-Some-position
returns-in-Some-position c =
    let v = c.in-Some.value in
    let xs = c.args.list.now.items in
    let at : c.position.result ≡ cond (ltb (first v xs) (length xs)) (Some (first v xs)) None =
    position_from_yields_List (λ x. eqb x v) _ _ c.position.result c.position.ensures.ran (YieldsList-from_slice xs cc) (λ x b q k. search (rules, tests)) in
    rw c.in-Some.is (c.remove.ensures.items ∙ without_found v c.in-Some-position.first xs (sym c.in-Some-position.is ∙ at))

pub returns-in_default-position : goal.returns-in_default-position
returns-in_default-position c =
    let v = c.in-Some.value in
    let xs = c.args.list.now.items in
    let at : c.position.result ≡ cond (ltb (first v xs) (length xs)) (Some (first v xs)) None =
    position_from_yields_List (λ x. eqb x v) _ _ c.position.result c.position.ensures.ran (YieldsList-from_slice xs cc) (λ x b q k. search (rules, tests)) in
    rw c.in-Some.is (without_absent v xs (sym c.in_default-position.is ∙ at))
