use Rattle.history_lists.proofs.Tallies.{listed_as_books}
use Rattle.history_lists.proofs.listing.lists_of.Goals as goal

pub returns : goal.returns
returns g c = listed_as_books c.args.channel c.args.calls.now c.args.answers.now c.tally.result c.tally.ensures
