use Rattle.connection_words.specs.Places.{needed}
use Rattle.connection_ports.proofs.laws.small_room.Goals as goal

pub returns : goal.returns
unfolding needed
returns c = record { refused = λ p o words e. rw e; accepted = λ p o words e. rw e }
