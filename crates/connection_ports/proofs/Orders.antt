-- The two ports created one after the other.
use Rattle.std.proofs.Common.{◌≡◌, ℕ, zero, suc, ◌+◌, ◌-◌, ◌<◌, ◌≤◌, Bool, true, false, cond, not, ◌&&◌, eqb, ltb, leb, List, map, length, get_or, drop, set, Some, None, Option, sym, refl, ap, ◌∙◌, ⊎_elim, add_assoc, arith, eq-eqb, ne_eqb}
use Rattle.std.specs.List.{range_with_len}
use Rattle.std.proofs.lemmas.Bool.Decides.{nat_tests}
use Rattle.std.proofs.lemmas.Bool.{cases_eq, cases_lt}
use Rattle.std.proofs.lemmas.List.{get_or-append_right, length-set, get_or-set_same, get_or-set_other, ext_get_or}
use Rattle.std.proofs.lemmas.List.FromFn.{length-map-range_with_len}
use Rattle.dynamic_storage.specs.declared.condition.Condition.TheVariants.{Absent, Ready}
use Rattle.connection_words.specs.declared.settings.Settings.{Settings}
use Rattle.connection_words.specs.declared.ring.Ring.{Ring}
use Rattle.connection_words.specs.Settings.{buffer, borrowed, samples, segments, channels, too_small, too_large, completions}
use Rattle.connection_words.specs.Places.{channel_at, needed, submission_of, completion_of}
use Rattle.connection_words.specs.Soundness.{sound, settings_of, port_state}
use Rattle.connection_words.specs.Queues.{start, count, queue_sound, channel_sound}
use Rattle.connection_ports.specs.declared.port.Port.{Port}
use Rattle.connection_ports.specs.declared.port.Port.TheVariants as port
use Rattle.connection_ports.specs.Numbers.{bit_of}
use Rattle.connection_ports.specs.Fresh.{fresh_word, fresh_words, overflow_word}
use Rattle.connection_ports.specs.Creation.{queues_sound, whole, holds, same, mismatch, join_refusal, creation_refusal, creation_words}
use Rattle.connection_ports.specs.Laws.{other, OrdersAgree}
use Rattle.connection_ports.proofs.Freshly.{fresh_at, fresh_length, fresh_zero, fresh_header, fresh_settings}

all_true : (a b : Bool) → a ≡ true → b ≡ true → a && b ≡ true
all_true a b e f = rw (e, f)

queue_empty : (words : List ℕ) (q : Ring) → start words q ≡ 0 → count words q ≡ 0 → 0 < q.capacity → queue_sound words q ≡ true
queue_empty words q e f h = grind (arith, nat_tests)

flag_small : (b : Bool) → leb (cond b 1 0) 1 ≡ true
flag_small true = refl
flag_small false = refl

same_self : (b : Bool) → same b b ≡ true
same_self true = refl
same_self false = refl

eqb_self : (n : ℕ) → eqb n n ≡ true
eqb_self n = eq-eqb n n refl

-- settings agree with themselves
mismatch_self : (s : Settings) → mismatch s s ≡ None
mismatch_self s =
    rw (eqb_self (buffer s), eqb_self (borrowed s), same_self s.enable_safe_overflow, eqb_self (samples s), eqb_self (segments s), eqb_self (channels s))

picks : (a b c : Bool) (o : Option ℕ) → a ≡ true → b ≡ false → c ≡ false → o ≡ None → cond (not a) (Some 6) (cond b (Some 7) (cond c (Some 8) o)) ≡ None
picks a b c o e f g h = rw (e, f, g, h)

module _ (s : Settings) (state : ℕ) (words : List ℕ) (low : too_small s ≡ false) (high : too_large s ≡ false) (room : needed s ≤ length words) where
  some_buffer : 0 < buffer s
  some_buffer = grind (arith, nat_tests)

  module _ (ports : ℕ) where
    abbrev fresh : List ℕ
    fresh = fresh_words s state ports words

    word_zero : (c j : ℕ) → c < channels s → 0 < j → j < 5 → get_or fresh (channel_at s c + j) 0 ≡ 0
    word_zero c j h l m = fresh_zero s state ports words c j h l (omega arith)

    channel_fresh : (c : ℕ) → c < channels s → channel_sound fresh s c ≡ true
    channel_fresh c h =
        all_true _ _
        (queue_empty fresh (submission_of s c) (word_zero c 1 h (omega arith) (omega arith)) (rw (add_assoc (channel_at s c) 1 1) (word_zero c 2 h (omega arith) (omega arith))) some_buffer)
        (queue_empty fresh (completion_of s c) (word_zero c 3 h (omega arith) (omega arith)) (rw (add_assoc (channel_at s c) 3 1) (word_zero c 4 h (omega arith) (omega arith))) (omega arith))

    queues_fresh : (n : ℕ) → n ≤ channels s → queues_sound fresh s n ≡ true
    queues_fresh zero h = refl
    queues_fresh (suc n) h = all_true (queues_sound fresh s n) (channel_sound fresh s n) (queues_fresh n (omega arith)) (channel_fresh n (omega arith))

    settings_fresh : settings_of fresh ≡ s
    settings_fresh = fresh_settings s state ports words

    state_fresh : get_or fresh 0 0 ≡ ports
    state_fresh = let h = fresh_header s state ports words in fresh_at s state ports words 0 (omega arith)

    pub sound_fresh : port_state ports ≡ true → sound Ready fresh ≡ true
    sound_fresh p =
        let h = fresh_header s state ports words in
        let l = fresh_length s state ports words room in
        let seventh : get_or fresh 7 0 ≡ completions s = fresh_at s state ports words 7 (omega arith) in
        let sixth : get_or fresh 6 0 ≡ overflow_word s = fresh_at s state ports words 6 (omega arith) in
        let fits : leb (needed s) (length fresh) ≡ true = grind (arith, nat_tests) in
        all_true (port_state (get_or fresh 0 0)) _ (ap port_state state_fresh ∙ p)
        (all_true (not (too_small (settings_of fresh))) _ (ap (λ t. not (too_small t)) settings_fresh ∙ ap not low)
        (all_true (not (too_large (settings_of fresh))) _ (ap (λ t. not (too_large t)) settings_fresh ∙ ap not high)
        (all_true (leb (get_or fresh 6 0) 1) _ (ap (λ n. leb n 1) sixth ∙ flag_small s.enable_safe_overflow)
        (all_true (eqb (get_or fresh 7 0) (completions (settings_of fresh))) _ (ap (λ t. eqb (get_or fresh 7 0) (completions t)) settings_fresh ∙ eq-eqb (get_or fresh 7 0) (completions s) seventh)
        (ap (λ t. leb (needed t) (length fresh)) settings_fresh ∙ fits)))))

    pub whole_fresh : port_state ports ≡ true → whole Ready fresh ≡ true
    unfolding whole
    whole_fresh p =
        all_true (sound Ready fresh) _ (sound_fresh p)
        (ap (λ t. queues_sound fresh t (channels t)) settings_fresh ∙ queues_fresh (channels s) (omega arith))

    join_fresh : (p : Port) → port_state ports ≡ true → holds p ports ≡ false → eqb ports 128 ≡ false → join_refusal p s Ready fresh ≡ None
    join_fresh p good free kept =
        picks (whole Ready fresh) (holds p (get_or fresh 0 0)) (eqb (get_or fresh 0 0) 128) (mismatch s (settings_of fresh)) (whole_fresh good) (ap (holds p) state_fresh ∙ free) (ap (λ n. eqb n 128) state_fresh ∙ kept)
        (ap (mismatch s) settings_fresh ∙ mismatch_self s)

-- another port state in fresh words
module _ (s : Settings) (state b d : ℕ) (words : List ℕ) (room : needed s ≤ length words) where
  body_same : (i : ℕ) → (i ≡ 0 → ⊥) → fresh_word s state b i ≡ fresh_word s state d i
  body_same i ne = rw (ne_eqb i 0 ne)

  tail_at : (ports i : ℕ) → needed s ≤ i → get_or (fresh_words s state ports words) i 0 ≡ get_or (drop (needed s) words) (i - needed s) 0
  tail_at ports i h =
      get_or-append_right (map (fresh_word s state ports) (range_with_len 0 (needed s))) (drop (needed s) words) (needed s) i 0 (length-map-range_with_len (fresh_word s state ports) 0 (needed s)) h

  word_same : (i : ℕ) → i < length words → get_or (set (fresh_words s state b words) 0 d) i 0 ≡ get_or (fresh_words s state d words) i 0
  word_same i h =
      let hb = fresh_header s state b words in
      let lb = fresh_length s state b words room in
      ⊎_elim
      (λ (z : i ≡ 0). rw z (get_or-set_same (fresh_words s state b words) 0 d 0 (omega arith) ∙ sym (fresh_at s state d words 0 (omega arith))))
      (λ (ne : i ≡ 0 → ⊥).
      get_or-set_other (fresh_words s state b words) 0 i d 0 ne
      ∙ ⊎_elim
      (λ (l : i < needed s). fresh_at s state b words i l ∙ (body_same i ne ∙ sym (fresh_at s state d words i l)))
      (λ (l : needed s ≤ i). tail_at b i l ∙ sym (tail_at d i l))
      (cases_lt i (needed s)))
      (cases_eq i 0)

  pub set_fresh : set (fresh_words s state b words) 0 d ≡ fresh_words s state d words
  set_fresh =
      let lb = fresh_length s state b words room in
      let ld = fresh_length s state d words room in
      let ls = length-set (fresh_words s state b words) 0 d in
      ext_get_or 0 (set (fresh_words s state b words) 0 d) (fresh_words s state d words) (ls ∙ (lb ∙ sym ld)) (λ i l. word_same i (omega arith))

port_bit : (p : Port) → port_state (bit_of p) ≡ true
port_bit port.Sender = refl
port_bit port.Receiver = refl

other_free : (p : Port) → holds (other p) (bit_of p) ≡ false
other_free port.Sender = refl
other_free port.Receiver = refl

bit_kept : (p : Port) → eqb (bit_of p) 128 ≡ false
bit_kept port.Sender = refl
bit_kept port.Receiver = refl

both_bits : (p : Port) → bit_of p + bit_of (other p) ≡ 3
both_bits port.Sender = refl
both_bits port.Receiver = refl

module _ (s : Settings) (state : ℕ) (words : List ℕ) (low : too_small s ≡ false) (high : too_large s ≡ false) (room : needed s ≤ length words) where
  first_accepted : (p : Port) → creation_refusal p s Absent words ≡ None
  first_accepted p = let fits : ltb (length words) (needed s) ≡ false = grind (arith, nat_tests) in rw (high, fits)

  first_words : (p : Port) → creation_words p s state Absent words ≡ fresh_words s state (bit_of p) words
  first_words p = rw (first_accepted p)

  joins : (p : Port) → creation_refusal (other p) s Ready (fresh_words s state (bit_of p) words) ≡ None
  joins p = rw high (join_fresh s state words low high room (bit_of p) (other p) (port_bit p) (other_free p) (bit_kept p))

  joined_words : (p : Port) → creation_words (other p) s state Ready (fresh_words s state (bit_of p) words) ≡ fresh_words s state 3 words
  joined_words p =
      let z = state_fresh s state words low high room (bit_of p) in
      rw (joins p, z, both_bits p) (set_fresh s state (bit_of p) 3 words room)

pub both_orders : OrdersAgree
both_orders s state words low high room =
    record {
      first = first_accepted s state words low high room;
      second = λ p. rw (first_words s state words low high room p) (joins s state words low high room p);
      same = λ p. rw (first_words s state words low high room p) (joined_words s state words low high room p);
    }
