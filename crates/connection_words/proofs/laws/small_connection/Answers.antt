use Rattle.std.proofs.Common.{refl}
use Rattle.connection_words.specs.Places.{needed}
use Rattle.connection_words.proofs.laws.small_connection.Goals as goal

pub returns : goal.returns
unfolding needed
returns c = record { small_completions = λ o. refl; small_needed = λ o. refl; largest_needed = λ o. refl }
