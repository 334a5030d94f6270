-- The words of a connection that was just created.
use Rattle.std.proofs.Common.{◌≡◌, ℕ, ◌+◌, ◌-◌, ◌*◌, ◌%◌, ◌<◌, ◌≤◌, Bool, true, false, cond, ◌&&◌, eqb, ltb, List, map, length, get_or, drop, refl, ap, ◌∙◌, zero-add, arith, ne_eqb}
use Rattle.std.specs.List.{range_with_len}
use Rattle.std.proofs.lemmas.Nat.{mod-mul-add}
use Rattle.std.proofs.lemmas.List.{get_or_append_left, length-append, length-drop}
use Rattle.std.proofs.lemmas.List.FromFn.{length-map-range_with_len, get_or-map-range_with_len}
use Rattle.connection_words.specs.declared.settings.Settings.{Settings}
use Rattle.connection_words.specs.Settings.{channels}
use Rattle.connection_words.specs.Places.{stride, channel_at, needed}
use Rattle.connection_words.specs.Soundness.{settings_of}
use Rattle.connection_words.proofs.Apart.{channels_first, details_end}
use Rattle.connection_ports.specs.Fresh.{fresh_word, fresh_words, body_word}

none_of : (b : Bool) (x : ℕ) → cond (b && false) x 0 ≡ 0
none_of true x = refl
none_of false x = refl

flag_word : (b : Bool) → eqb (cond b 1 0) 1 ≡ b
flag_word true = refl
flag_word false = refl

module _ (s : Settings) (state ports : ℕ) (words : List ℕ) where
  -- a fresh word, where it is needed
  pub fresh_at : (i : ℕ) → i < needed s → get_or (fresh_words s state ports words) i 0 ≡ fresh_word s state ports i
  fresh_at i h =
      get_or_append_left (map (fresh_word s state ports) (range_with_len 0 (needed s))) (drop (needed s) words) 0 i (rw (length-map-range_with_len (fresh_word s state ports) 0 (needed s)) h)
      ∙ get_or-map-range_with_len (fresh_word s state ports) 0 (needed s) i i 0 h (zero-add i)

  pub fresh_length : needed s ≤ length words → length (fresh_words s state ports words) ≡ length words
  fresh_length h = simp (length-append, length-map-range_with_len, length-drop) (omega arith)

  fresh_body : (place : ℕ) → 8 ≤ place → fresh_word s state ports place ≡ body_word s state place
  fresh_body place h =
      rw (ne_eqb place 0 (λ e. omega arith), ne_eqb place 1 (λ e. omega arith), ne_eqb place 2 (λ e. omega arith), ne_eqb place 3 (λ e. omega arith), ne_eqb place 4 (λ e. omega arith), ne_eqb place 5 (λ e. omega arith), ne_eqb place 6 (λ e. omega arith), ne_eqb place 7 (λ e. omega arith))

  body_zero : (place j : ℕ) → (place - 8) % stride s ≡ j → 0 < j → body_word s state place ≡ 0
  body_zero place j e h = rw (e, ne_eqb j 0 (λ z. omega arith)) (none_of (ltb place (8 + channels s * stride s)) state)

  -- the words of a channel behind its state are 0
  pub fresh_zero : (c j : ℕ) → c < channels s → 0 < j → j < stride s → get_or (fresh_words s state ports words) (channel_at s c + j) 0 ≡ 0
  unfolding channel_at
  fresh_zero c j h low high =
      let inside : channel_at s c + stride s ≤ needed s = rw (← details_end s) (channels_first s c (channels s) 0 h) in
      let m : (8 + c * stride s + j - 8) % stride s ≡ j = ap (λ n. n % stride s) (omega arith) ∙ mod-mul-add c (stride s) j high in
      fresh_at (channel_at s c + j) (omega arith)
      ∙ (fresh_body (channel_at s c + j) (omega arith) ∙ body_zero (channel_at s c + j) j m low)

  pub fresh_header : 8 ≤ needed s
  unfolding needed
  fresh_header = omega arith

  -- the settings that fresh words state are those that were asked for
  pub fresh_settings : settings_of (fresh_words s state ports words) ≡ s
  fresh_settings =
      let h = fresh_header in
      rw (fresh_at 1 (omega arith), fresh_at 2 (omega arith), fresh_at 3 (omega arith), fresh_at 4 (omega arith), fresh_at 5 (omega arith), fresh_at 6 (omega arith), flag_word s.enable_safe_overflow)
