-- Two accepted creations leave a fresh connection.
use Rattle.std.proofs.Common.{◌≡◌, ℕ, ◌+◌, ◌≤◌, false, eqb, ltb, List, length, get_or, replicate, None, refl, arith}
use Rattle.std.proofs.lemmas.Bool.Decides.{nat_tests}
use Rattle.std.proofs.lemmas.Bool.{ltb-false}
use Rattle.dynamic_storage.specs.declared.condition.Condition.TheVariants.{Absent, Ready}
use Rattle.connection_words.specs.declared.settings.Settings.{Settings}
use Rattle.connection_words.specs.Settings.{buffer, borrowed, samples, segments, channels, at_least_one, raised, too_small, too_large}
use Rattle.connection_words.specs.Places.{needed}
use Rattle.connection_ports.specs.declared.port.Port.{Port}
use Rattle.connection_ports.specs.declared.port.Port.TheVariants as port
use Rattle.connection_ports.specs.Numbers.{bit_of}
use Rattle.connection_ports.specs.Fresh.{fresh_words}
use Rattle.connection_ports.specs.Creation.{creation_refusal, creation_words, creation_condition, joined}
use Rattle.connection_ports.specs.Laws.{other}
use Rattle.connection_ports.proofs.Freshly.{fresh_at, fresh_header}
use Rattle.connection_ports.proofs.Orders.{set_fresh}
use Rattle.channel_laws.proofs.Sounds.{cond_none}
use Rattle.history.specs.Guarantee.{FreshCreated, created, counts_with}

some_each : (n : ℕ) → eqb (at_least_one n) 0 ≡ false
some_each n = grind (arith, nat_tests)

raised_some : (s : Settings) → too_small (raised s) ≡ false
raised_some s = rw (some_each (buffer s), some_each (borrowed s), some_each (samples s), some_each (segments s), some_each (channels s))

both_bits : (p : Port) → bit_of p + bit_of (other p) ≡ 3
both_bits port.Sender = refl
both_bits port.Receiver = refl

both_counts : (p : Port) (counts : List ℕ) → counts_with (other p) (counts_with p counts) ≡ replicate 64 0
both_counts port.Sender counts = refl
both_counts port.Receiver counts = refl

module _ (p : Port) (s : Settings) (state : ℕ) (before : List ℕ) (first : creation_refusal p s Absent before ≡ None) where
  within : (too_large s ≡ false) × (needed s ≤ length before)
  within =
      let large = cond_none (too_large s) 1 _ first in
      (large.0, ltb-false (length before) (needed s) (cond_none (ltb (length before) (needed s)) 2 None large.1).0)

  first_words : creation_words p s state Absent before ≡ fresh_words s state (bit_of p) before
  first_words = rw first

  first_ready : creation_condition p s Absent before ≡ Ready
  first_ready = rw first

  both_joined : joined (other p) (fresh_words s state (bit_of p) before) ≡ fresh_words s state 3 before
  both_joined =
      let header = fresh_header s state (bit_of p) before in
      let bit : get_or (fresh_words s state (bit_of p) before) 0 0 ≡ bit_of p = fresh_at s state (bit_of p) before 0 (omega arith) in
      rw (bit, both_bits p) (set_fresh s state (bit_of p) 3 before within.1)

pub fresh_created : FreshCreated
fresh_created p s r state also t absent first second =
    let first : creation_refusal p (raised s) Absent t.words ≡ None = rw absent at first in
    let ready : (created p s state t).condition ≡ Ready = rw absent (first_ready p (raised s) state t.words first) in
    let words : (created p s state t).words ≡ fresh_words (raised s) state (bit_of p) t.words = rw absent (first_words p (raised s) state t.words first) in
    let fits = within p (raised s) state t.words first in
    record {
      asked = raised s;
      state = state;
      before = t.words;
      low = raised_some s;
      high = fits.0;
      room = fits.1;
      ready = rw second refl;
      written = rw (second, ready, words) (both_joined p (raised s) state t.words first);
      uncounted = both_counts p t.counts;
    }
