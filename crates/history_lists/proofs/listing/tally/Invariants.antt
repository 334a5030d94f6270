use Rattle.std.proofs.Common.{◌≡◌}
use Rattle.history_lists.specs.Lists.{tally_in, empty, tallied}
use Rattle.history_lists.proofs.listing.tally.Given as goal

abbrev pub invariant-loop-call : goal.invariant-loop-call
invariant-loop-call g l = tallied l.channel l.call-iterator.a.rest.now l.call-iterator.b.rest.now (tally_in l.lists) ≡ tallied l.channel l.calls l.answers empty
