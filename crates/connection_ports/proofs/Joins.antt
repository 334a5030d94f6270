-- What is known of a connection that a port can join.
use Rattle.std.proofs.Common.{◌≡◌, ℕ, Bool, true, false, cond, not, ◌&&◌, eqb, List, get_or, Some, None, Option, refl, ◌∙◌}
use Rattle.dynamic_storage.specs.declared.condition.Condition.{Condition}
use Rattle.connection_words.specs.declared.settings.Settings.{Settings}
use Rattle.connection_words.specs.Soundness.{sound, is_ready, port_state, settings_of}
use Rattle.connection_ports.specs.declared.port.Port.{Port}
use Rattle.connection_ports.specs.Creation.{whole, holds, mismatch, join_refusal}

both : (a b : Bool) → a && b ≡ true → (a ≡ true) × (b ≡ true)
both true b e = (refl, e)
both false b e = (e, cc)

some_refused : (b : Bool) (n : ℕ) (o : Option ℕ) → cond (not b) (Some n) o ≡ None → b ≡ true
some_refused true n o e = refl
some_refused false n o e = cc

pub join_whole : (p : Port) (s : Settings) (k : Condition) (words : List ℕ) → join_refusal p s k words ≡ None → whole k words ≡ true
join_whole p s k words e = some_refused (whole k words) 6 _ e

pub sound_port : (k : Condition) (words : List ℕ) → sound k words ≡ true → port_state (get_or words 0 0) ≡ true
sound_port k words e = (both (port_state (get_or words 0 0)) _ (both (is_ready k) _ e).1).0

pub whole_sound : (k : Condition) (words : List ℕ) → whole k words ≡ true → sound k words ≡ true
unfolding whole
whole_sound k words e = (both (sound k words) _ e).0

not_joined : (held marked : Bool) (o : Option ℕ) → None ≡ o → o ≡ cond held (Some 7) (cond marked (Some 8) None) → (held ≡ false) × (marked ≡ false)
not_joined true marked o f e = cc
not_joined false true o f e = cc
not_joined false false o f e = (refl, refl)

-- a connection that a port can join by its port state refuses it by the first setting that differs
pub join_mismatch : (p : Port) (s found : Settings) (k : Condition) (words : List ℕ) (w : ℕ) (free o : Option ℕ) → whole k words ≡ true → found ≡ settings_of words → w ≡ get_or words 0 0 → None ≡ free → free ≡ cond (holds p w) (Some 7) (cond (eqb w 128) (Some 8) None) → o ≡ mismatch s found → o ≡ join_refusal p s k words
join_mismatch p s found k words w free o sound is at n f e =
    let no = not_joined (holds p w) (eqb w 128) free n f in
    let held : holds p (get_or words 0 0) ≡ false = rw (← at) no.0 in
    let marked : eqb (get_or words 0 0) 128 ≡ false = rw (← at) no.1 in
    e ∙ rw (sound, held, marked, is)

-- a whole connection has a port state
pub whole_port : (k : Condition) (words : List ℕ) → whole k words ≡ true → port_state (get_or words 0 0) ≡ true
whole_port k words e = sound_port k words (whole_sound k words e)
