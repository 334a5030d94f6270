-- What the checks of a channel tell.
use Rattle.std.proofs.Common.{◌≡◌, ℕ, Bool, true, false, cond, not, ltb, leb, List, Some, None, Option, sym, refl, ap, ◌∙◌, arith}
use Rattle.std.proofs.lemmas.Bool.Decides.{nat_tests}
use Rattle.dynamic_storage.specs.declared.condition.Condition.{Condition}
use Rattle.connection_words.specs.declared.settings.Settings.{Settings}
use Rattle.connection_words.specs.Settings.{channels}
use Rattle.connection_words.specs.Soundness.{sound, settings_of}
use Rattle.connection_words.specs.Queues.{channel_sound}
use Rattle.zero_copy_connection.specs.Checks.{channel_refusal}

flips : (a b : ℕ) (t : Bool) → ltb a b ≡ t → leb b a ≡ not t
flips a b true e = grind (arith, nat_tests)
flips a b false e = grind (arith, nat_tests)

negated : (b : Bool) (n : ℕ) → cond b None (Some n) ≡ cond (not b) (Some n) None
negated true n = refl
negated false n = refl

module _ (k : Condition) (words : List ℕ) (c : ℕ) where
  pub no_connection : sound k words ≡ false → Some 50 ≡ channel_refusal k words c
  unfolding channel_refusal
  no_connection e = rw e

  module _ (s : Settings) (good : sound k words ≡ true) (is : s ≡ settings_of words) where
    -- the last check
    last : (t : Bool) → ltb c (channels s) ≡ t → channel_refusal k words c ≡ cond (not t) (Some 51) (cond (not (channel_sound words s c)) (Some 50) None)
    unfolding channel_refusal
    last t e = rw (good, is, flips c (channels (settings_of words)) t (rw is at e))

    pub no_channel : ltb c (channels s) ≡ false → Some 51 ≡ channel_refusal k words c
    no_channel e = sym (last false e)

    pub by_queues : (t : Settings) (i : ℕ) (b : Bool) → ltb c (channels s) ≡ true → t ≡ s → i ≡ c → b ≡ channel_sound words t i → cond {A = Option ℕ} b None (Some 50) ≡ channel_refusal k words c
    by_queues t i b e f h g =
        let same : channel_sound words t i ≡ channel_sound words s c = rw (f, h) in
        negated b 50 ∙ (ap (λ (x : Bool). cond {A = Option ℕ} (not x) (Some 50) None) (g ∙ same) ∙ sym (last true e))
