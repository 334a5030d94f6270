use Rattle.std.proofs.Common.{◌≡◌, ◌⊎◌, length, inl, inr, sym, ◌∙◌}
use Rattle.history_lists.specs.Lists.{tally_in}
use Rattle.history_lists.proofs.Tallies.{tallied_all}
use Rattle.history_lists.proofs.listing.tally.Goals as goal

pub returns : goal.returns
returns g c =
    let left = c.loop-call.call-iterator in
    let done : (length left.a.rest.now ≡ 0) ⊎ (length left.b.rest.now ≡ 0) =
    elim c.in-None.ensures.steps [ inl e ↦ inl e.1.0 | inr e ↦ inr e.1.0 ] in
    sym (tallied_all c.args.channel left.a.rest.now left.b.rest.now (tally_in c.loop-call.lists) done) ∙ c.loop-call.invariant
