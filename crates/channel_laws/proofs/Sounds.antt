-- What soundness and a call that is not refused tell.
use Rattle.std.proofs.Common.{◌≡◌, ℕ, ◌/◌, ◌%◌, ◌<◌, ◌≤◌, Bool, true, false, cond, not, ◌&&◌, eqb, ltb, leb, ◌≢◌, ◌⊎◌, List, length, get_or, Some, None, Option, refl, arith}
use Rattle.std.proofs.lemmas.Bool.Decides.{nat_tests}
use Rattle.std.proofs.lemmas.Bool.{and_parts, or_parts, not-true, not-false, leb-true, leb-false, eqb-true, eqb-false, ltb-false}
use Rattle.dynamic_storage.specs.declared.condition.Condition.{Condition}
use Rattle.shm_allocator.specs.Offsets.{segment_of, offset_of}
use Rattle.connection_words.specs.declared.settings.Settings.{Settings}
use Rattle.connection_words.specs.Settings.{Limits, buffer, borrowed, samples, segments, channels, completions, too_small, too_large}
use Rattle.connection_words.specs.Places.{needed, submission_of, completion_of}
use Rattle.connection_words.specs.Soundness.{is_ready, settings_of, port_state, sound}
use Rattle.connection_words.specs.Queues.{queue_sound, channel_sound}
use Rattle.connection_words.specs.Chunks.{size_for, mark_of}
use Rattle.connection_words.specs.Laws.{SameAt}
use Rattle.zero_copy_connection.specs.declared.mark.Mark.TheVariants.{Used}
use Rattle.zero_copy_connection.specs.Answers.{or_else}
use Rattle.zero_copy_connection.specs.Marks.{is_mark}
use Rattle.zero_copy_connection.specs.Checks.{channel_refusal}
use Rattle.zero_copy_connection.specs.Sending.{is_full, full_refusal, chunk_refusal, send_refusal}

-- words with the same header state the same settings
pub settings_same : (words others : List ℕ) → ((p : ℕ) → p < 8 → SameAt others words p) → settings_of others ≡ settings_of words
settings_same words others h =
    rw (h 1 (omega arith), h 2 (omega arith), h 3 (omega arith), h 4 (omega arith), h 5 (omega arith), h 6 (omega arith))

-- and are as sound, where they are as many
pub sound_same : (k : Condition) (words others : List ℕ) → length others ≡ length words → ((p : ℕ) → p < 8 → SameAt others words p) → sound k others ≡ sound k words
sound_same k words others e h =
    rw (e, h 0 (omega arith), h 1 (omega arith), h 2 (omega arith), h 3 (omega arith), h 4 (omega arith), h 5 (omega arith), h 6 (omega arith), h 7 (omega arith))

-- settings that are neither too small nor too large
pub limits_of : (s : Settings) → too_small s ≡ false → too_large s ≡ false → Limits s
limits_of s low high =
    let a = or_parts (eqb (buffer s) 0) _ low in
    let b = or_parts (eqb (borrowed s) 0) _ a.1 in
    let c = or_parts (eqb (samples s) 0) _ b.1 in
    let d = or_parts (eqb (segments s) 0) _ c.1 in
    let p = or_parts (ltb 1024 (buffer s)) _ high in
    let q = or_parts (ltb 1024 (borrowed s)) _ p.1 in
    let r = or_parts (ltb 65536 (samples s)) _ q.1 in
    let t = or_parts (ltb 255 (segments s)) _ r.1 in (
      (some (buffer s) a.0, ltb-false 1024 (buffer s) p.0),
      (some (borrowed s) b.0, ltb-false 1024 (borrowed s) q.0),
      (some (samples s) c.0, ltb-false 65536 (samples s) r.0),
      (some (segments s) d.0, ltb-false 255 (segments s) t.0),
      (some (channels s) d.1, ltb-false 64 (channels s) t.1),
    ) where
      some : (n : ℕ) → eqb n 0 ≡ false → 1 ≤ n
      some n e = let ne : n ≢ 0 = eqb-false n 0 e in omega arith

-- what soundness says
module _ (k : Condition) (words : List ℕ) (e : sound k words ≡ true) where
  after_ports : (not (too_small (settings_of words)) && (not (too_large (settings_of words)) && (leb (get_or words 6 0) 1 && (eqb (get_or words 7 0) (completions (settings_of words)) && leb (needed (settings_of words)) (length words))))) ≡ true
  after_ports = (and_parts (port_state (get_or words 0 0)) _ (and_parts (is_ready k) _ e).1).1

  pub sound_limits : Limits (settings_of words)
  sound_limits =
      let a = and_parts (not (too_small (settings_of words))) _ after_ports in
      let b = and_parts (not (too_large (settings_of words))) _ a.1 in
      limits_of (settings_of words) (not-true _ a.0) (not-true _ b.0)

  pub sound_within : needed (settings_of words) ≤ length words
  sound_within =
      let a = and_parts (not (too_small (settings_of words))) _ after_ports in
      let b = and_parts (not (too_large (settings_of words))) _ a.1 in
      let c = and_parts (leb (get_or words 6 0) 1) _ b.1 in
      let d = and_parts (eqb (get_or words 7 0) (completions (settings_of words))) _ c.1 in
      leb-true _ _ d.1

-- the parts of a refusal that is none
pub cond_none : {A : Type 0} (t : Bool) (e : A) (o : Option A) → cond t (Some e) o ≡ None → (t ≡ false) × (o ≡ None)
cond_none true e o h = (let z : ◌≡◌ {A = Bool} true false = cc in z, let z : o ≡ None = cc in z)
cond_none false e o h = (refl, h)

pub or_else_none : (o p : Option ℕ) → or_else o p ≡ None → (o ≡ None) × (p ≡ None)
or_else_none (Some e) p h = (h, let z : p ≡ None = cc in z)
or_else_none None p h = (refl, h)

-- what is known where the checks of a channel refuse nothing
pub record Open (k : Condition) (words : List ℕ) (c : ℕ) : Type 0 where
  pub stands : sound k words ≡ true
  pub limits : Limits (settings_of words)
  pub room : needed (settings_of words) ≤ length words
  pub channel : c < channels (settings_of words)
  pub sub : queue_sound words (submission_of (settings_of words) c) ≡ true
  pub comp : queue_sound words (completion_of (settings_of words) c) ≡ true

pub opened : (k : Condition) (words : List ℕ) (c : ℕ) → channel_refusal k words c ≡ None → Open k words c
unfolding channel_refusal
opened k words c e =
    let p = cond_none (not (sound k words)) 50 _ e in
    let q = cond_none (leb (channels (settings_of words)) c) 51 _ p.1 in
    let r = cond_none (not (channel_sound words (settings_of words) c)) 50 None q.1 in
    let good = not-false (sound k words) p.0 in
    let both = and_parts (queue_sound words (submission_of (settings_of words) c)) (queue_sound words (completion_of (settings_of words) c)) (not-false _ r.0) in
    record {
      stands = good;
      limits = sound_limits k words good;
      room = sound_within k words good;
      channel = leb-false _ _ q.0;
      sub = both.0;
      comp = both.1;
    }

-- and the other way round
pub open_channel : (k : Condition) (words : List ℕ) (c : ℕ) → sound k words ≡ true → c < channels (settings_of words) → queue_sound words (submission_of (settings_of words) c) ≡ true → queue_sound words (completion_of (settings_of words) c) ≡ true → channel_refusal k words c ≡ None
unfolding channel_refusal
open_channel k words c a b d e = let f : leb (channels (settings_of words)) c ≡ false = grind (arith, nat_tests) in rw (a, f, d, e)

-- what is known where nothing refuses a value as a chunk
pub record Sendable (words : List ℕ) (s : Settings) (c v size : ℕ) : Type 0 where
  pub segment : segment_of v < segments s
  pub some : 0 < size
  pub known : (size_for words s c v ≡ 0) ⊎ (size_for words s c v ≡ size)
  pub aligned : offset_of v % size ≡ 0
  pub index : offset_of v / size < samples s
  pub free : get_or words (mark_of s c size v) 0 ≡ 0

known_by : (x m : ℕ) → (not (eqb x 0) && not (eqb x m)) ≡ false → (x ≡ 0) ⊎ (x ≡ m)
known_by x m h = grind (arith, nat_tests)

pub chunk_sendable : (words : List ℕ) (s : Settings) (c v size : ℕ) → chunk_refusal words s c v size ≡ None → Sendable words s c v size
unfolding chunk_refusal
chunk_sendable words s c v size e =
    let q1 = cond_none (leb (segments s) (segment_of v)) 21 _ e in
    let q2 = cond_none (eqb size 0) 22 _ q1.1 in
    let q3 = cond_none (not (eqb (size_for words s c v) 0) && not (eqb (size_for words s c v) size)) 23 _ q2.1 in
    let q4 = cond_none (not (eqb (offset_of v % size) 0)) 24 _ q3.1 in
    let q5 = cond_none (leb (samples s) (offset_of v / size)) 25 _ q4.1 in
    let q6 = cond_none (is_mark Used (get_or words (mark_of s c size v) 0)) 26 None q5.1 in
    let ne : size ≢ 0 = eqb-false size 0 q2.0 in
    record {
      segment = leb-false _ _ q1.0;
      some = omega arith;
      known = known_by (size_for words s c v) size q3.0;
      aligned = eqb-true _ _ (not-false _ q4.0);
      index = leb-false _ _ q5.0;
      free = eqb-true _ _ (not-false _ q6.0);
    }

-- the parts of a send that is not refused
pub sendable : (k : Condition) (words : List ℕ) (c v size : ℕ) → send_refusal k words c v size ≡ None → Open k words c × (is_full words (settings_of words) c && not (settings_of words).enable_safe_overflow ≡ false) × Sendable words (settings_of words) c v size
sendable k words c v size e =
    let p = or_else_none (channel_refusal k words c) _ e in
    let q = or_else_none (full_refusal words (settings_of words) c) (chunk_refusal words (settings_of words) c v size) p.1 in (
      opened k words c p.0,
      (cond_none (is_full words (settings_of words) c && not (settings_of words).enable_safe_overflow) 20 None q.0).0,
      chunk_sendable words (settings_of words) c v size q.1,
    )
