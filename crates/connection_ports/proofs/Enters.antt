-- What is known where a port enters a connection that stands.
use Rattle.std.proofs.Common.{◌≡◌, ℕ, Bool, true, false, cond, ◌||◌, List, Some, None, Ok, Option, sym, refl, ap, ◌∙◌}
use Rattle.dynamic_storage.specs.declared.condition.Condition.{Condition}
use Rattle.dynamic_storage.specs.declared.condition.Condition.TheVariants.{Absent, Forming, Ready, Broken, OtherVersion}
use Rattle.connection_words.specs.declared.settings.Settings.{Settings}
use Rattle.connection_words.specs.Settings.{too_small, too_large}
use Rattle.connection_ports.specs.declared.port.Entry.{Entry}
use Rattle.connection_ports.specs.declared.port.Entry.TheVariants as entry
use Rattle.connection_ports.specs.declared.port.Port.{Port}
use Rattle.connection_ports.specs.Creation.{entry_of, join_refusal, joined, unless, creation_refusal, creation_fault, creation_words, creation_condition}

join_ready : (k : Condition) → Ok entry.Join ≡ entry_of k → k ≡ Ready
join_ready Absent e = cc
join_ready Forming e = cc
join_ready Ready e = refl
join_ready Broken e = cc
join_ready OtherVersion e = cc

within : (low high : Bool) (s t : Settings) → Some t ≡ cond (low || high) None (Some s) → (high ≡ false) × (t ≡ s)
within true high s t e = cc
within false true s t e = cc
within false false s t e = (refl, cc)

either_ready : (o : Option ℕ) → unless o Ready Ready ≡ Ready
either_ready (Some n) = refl
either_ready None = refl

-- the settings that are entered with are those asked for, and lie in their limits
module _ (p : Port) (asked laid found entered : Settings) (k j : Condition) (way : Entry) (words : List ℕ) (same : laid ≡ asked) (limits : Some found ≡ cond (too_small laid || too_large laid) None (Some laid)) (told : entered ≡ found) (joins : way ≡ entry.Join) (by : Ok way ≡ entry_of j) (seen : j ≡ k) where
  ready : k ≡ Ready
  ready = sym seen ∙ join_ready j (sym (ap Ok joins) ∙ by)

  large : too_large asked ≡ false
  large = rw (← same) (within (too_small laid) (too_large laid) laid found limits).0

  entered_is : entered ≡ asked
  entered_is = told ∙ ((within (too_small laid) (too_large laid) laid found limits).1 ∙ same)

  pub entered_answer : join_refusal p entered k words ≡ creation_refusal p asked k words
  entered_answer = rw (ready, large, entered_is)

  pub entered_words : (state : ℕ) → unless (join_refusal p entered k words) words (joined p words) ≡ creation_words p asked state k words
  entered_words state = rw (ready, large, entered_is)

  pub entered_condition : k ≡ creation_condition p asked k words
  entered_condition = rw ready (sym (either_ready (creation_refusal p asked Ready words)))

  pub entered_fault : None ≡ creation_fault asked k
  entered_fault = rw (ready, large)
