-- Both ports are accepted over an absent storage, and leave a fresh connection.
use Rattle.std.proofs.Common.{◌≡◌, ℕ, false, eqb, ltb, List, [], length, replicate, is_some, Some, None, sym, refl, ap, ◌∙◌, true≢false, arith}
use Rattle.std.proofs.lemmas.Bool.Decides.{nat_tests}
use Rattle.std.proofs.lemmas.Bool.{ltb-false}
use Rattle.dynamic_storage.specs.declared.condition.Condition.{Condition}
use Rattle.dynamic_storage.specs.declared.condition.Condition.TheVariants.{Absent, Ready}
use Rattle.connection_words.specs.declared.settings.Settings.{Settings}
use Rattle.connection_words.specs.Settings.{buffer, borrowed, samples, segments, channels, at_least_one, raised, too_small, too_large}
use Rattle.connection_words.specs.Places.{needed}
use Rattle.connection_words.specs.Soundness.{settings_of}
use Rattle.connection_ports.specs.declared.port.Port.{Port}
use Rattle.connection_ports.specs.declared.port.Port.TheVariants as port
use Rattle.connection_ports.specs.Fresh.{fresh_words}
use Rattle.connection_ports.specs.Creation.{creation_refusal, creation_words, creation_condition}
use Rattle.connection_ports.specs.Laws.{other, BothOrders}
use Rattle.connection_ports.proofs.Freshly.{fresh_settings}
use Rattle.connection_ports.proofs.Orders.{both_orders}
use Rattle.channel_laws.specs.Calls.{state_of}
use Rattle.channel_laws.proofs.Sounds.{cond_none}
use Rattle.history.specs.Guarantee.{counts_with}
use Rattle.history.proofs.Created.{fresh_created}
use Rattle.history_run.specs.Ran.{opened, Opened, OpenedTo}

some_each : (n : ℕ) → eqb (at_least_one n) 0 ≡ false
some_each n = grind (arith, nat_tests)

raised_some : (s : Settings) → too_small (raised s) ≡ false
raised_some s = rw (some_each (buffer s), some_each (borrowed s), some_each (samples s), some_each (segments s), some_each (channels s))

both_counts : (p : Port) → counts_with (other p) (counts_with p []) ≡ replicate 64 0
both_counts port.Sender = refl
both_counts port.Receiver = refl

module _ (p : Port) (s : Settings) (state : ℕ) (words : List ℕ) (first : creation_refusal p (raised s) Absent words ≡ None) where
  first_ready : creation_condition p (raised s) Absent words ≡ Ready
  first_ready = rw first

  both : BothOrders (raised s) state words
  both =
      let large = cond_none (too_large (raised s)) 1 _ first in
      let room = ltb-false (length words) (needed (raised s)) (cond_none (ltb (length words) (needed (raised s))) 2 None large.1).0 in
      both_orders (raised s) state words (raised_some s) large.0 room

  other_accepted : creation_refusal (other p) (raised s) (creation_condition p (raised s) Absent words) (creation_words p (raised s) state Absent words) ≡ None
  other_accepted = rw first_ready (both.second p)

  both_words : (opened p s state Absent words).words ≡ fresh_words (raised s) state 3 words
  both_words = rw first_ready (both.same p)

  both_opened : Opened p s state Absent words
  both_opened =
      let fresh = fresh_created p s s state state (state_of Absent words []) refl first other_accepted in
      record {
        absent = refl;
        first_accepted = first;
        other_accepted = other_accepted;
        fresh = fresh;
        asked = ap settings_of both_words ∙ fresh_settings (raised s) state 3 words;
      }

not_none : {n : ℕ} → Some n ≡ None → ⊥
not_none e = true≢false (ap is_some e)

-- the storage before the creations, between them and after them
module _ (p : Port) (s : Settings) (state : ℕ) (k k1 : Condition) (w w1 : List ℕ)
    (absent : k ≡ Absent)
    (first : None ≡ creation_refusal p (raised s) k w)
    (condition : k1 ≡ creation_condition p (raised s) k w)
    (words : w1 ≡ creation_words p (raised s) state k w) where
  accepted : creation_refusal p (raised s) Absent w ≡ None
  accepted = sym (rw absent at first)

  pub other_none : creation_refusal (other p) (raised s) k1 w1 ≡ None
  other_none = rw (condition, words, absent) (other_accepted p s state w accepted)

  pub other_some : (n : ℕ) → Some n ≡ creation_refusal (other p) (raised s) k1 w1 → ⊥
  other_some n e = not_none (e ∙ other_none)

  pub opened_to : (k2 : Condition) (w2 : List ℕ) → k2 ≡ creation_condition (other p) (raised s) k1 w1 → w2 ≡ creation_words (other p) (raised s) state k1 w1 → OpenedTo None p s state k w k2 w2
  opened_to k2 w2 e f = rw (absent) (both_opened p s state w accepted, rw (e, f, condition, words, absent, sym (both_counts p)) refl)
