-- The walk over channels, and one turn more of the loop over words.
use Rattle.std.proofs.Common.{◌≡◌, ℕ, zero, suc, ◌+◌, ◌-◌, ◌<◌, ◌≤◌, ltb, Bool, true, false, cond, ◌&&◌, List, [], ◌∷◌, ◌++◌, map, length, drop, set, Some, None, sym, refl, ◌∙◌, ap, zero-add, arith}
use Rattle.std.specs.List.{range_with_len, list_all}
use Rattle.std.proofs.lemmas.Bool.Decides.{nat_tests}
use Rattle.std.proofs.lemmas.List.Folds.{list_all-append}
use Rattle.std.proofs.lemmas.List.{set-append_right, drop_more, append_assoc}
use Rattle.std.proofs.lemmas.List.FromFn.{length-map-range_with_len, map-range_with_len_more}
use Rattle.connection_words.specs.declared.settings.Settings.{Settings}
use Rattle.connection_words.specs.Queues.{channel_sound}
use Rattle.connection_ports.specs.Creation.{queues_sound}

-- what an answer says that is there under a test
pub some_is : {A : Type 0} (b : Bool) (x y : A) → Some x ≡ cond b (Some y) None → x ≡ y
some_is true x y e = cc
some_is false x y e = cc

pub some_true : {A : Type 0} (b : Bool) (x y : A) → Some x ≡ cond b (Some y) None → b ≡ true
some_true true x y e = refl
some_true false x y e = cc

pub none_false : {A : Type 0} (b : Bool) (y : A) → None ≡ cond b (Some y) None → b ≡ false
none_false true y e = cc
none_false false y e = refl

range_more : (a n : ℕ) → range_with_len a (suc n) ≡ range_with_len a n ++ (a + n) ∷ []
range_more a zero = let same : a + 0 ≡ a = omega arith in rw same refl
range_more a (suc n) = let same : a + 1 + n ≡ a + suc n = omega arith in ap (λ (xs : List ℕ). a ∷ xs) (rw (← same) (range_more (a + 1) n))

-- whether there is a channel with sound queues
abbrev pub sound_at : List ℕ → Settings → ℕ → ℕ → Bool
sound_at words s m k = cond (ltb k m) (channel_sound words s k) false

and_true : (b c : Bool) → b && (c && true) ≡ b && c
and_true true true = refl
and_true true false = refl
and_true false c = refl

pub sound_below : (words : List ℕ) (s : Settings) (m n : ℕ) → n ≤ m → list_all (sound_at words s m) (range_with_len 0 n) ≡ queues_sound words s n
sound_below words s m zero h = refl
sound_below words s m (suc n) h =
    let there : ltb n m ≡ true = grind (arith, nat_tests) in
    let last : sound_at words s m n ≡ channel_sound words s n = rw there refl in
    let first : 0 + n ≡ n = omega arith in
    let t : ℕ → Bool = sound_at words s m in
    let below : list_all t (range_with_len 0 n) ≡ queues_sound words s n = sound_below words s m n (omega arith) in
    let here : list_all t ((0 + n) ∷ []) ≡ channel_sound words s n && true = ap (λ (k : ℕ). t k && true) first ∙ ap (λ (b : Bool). b && true) last in
    ap (list_all t) (range_more 0 n)
    ∙ (list_all-append t (range_with_len 0 n) ((0 + n) ∷ [])
    ∙ (ap (λ (b : Bool). b && list_all t ((0 + n) ∷ [])) below
    ∙ (ap (λ (b : Bool). queues_sound words s n && b) here ∙ and_true (queues_sound words s n) (channel_sound words s n))))

drop_first : (words : List ℕ) (i w : ℕ) → i < length words → set (drop i words) 0 w ≡ w ∷ drop (i + 1) words
drop_first words i w h = rw (drop_more words i 0 h)

-- the word at i is written where those below it are
pub one_more_word : (f : ℕ → ℕ) (words now next : List ℕ) (i : ℕ) → i < length words → now ≡ map f (range_with_len 0 i) ++ drop i words → next ≡ set now i (f i) → next ≡ map f (range_with_len 0 (i + 1)) ++ drop (i + 1) words
one_more_word f words now next i h e g =
    let n = length-map-range_with_len f 0 i in
    let z : i - i ≡ 0 = omega arith in
    let first = set-append_right (map f (range_with_len 0 i)) (drop i words) i i (f i) n (omega arith) in
    let d0 : set (drop i words) 0 (f i) ≡ f i ∷ drop (i + 1) words = drop_first words i (f i) h in
    g ∙ rw (e, first, z, d0, map-range_with_len_more f 0 i i (zero-add i)) (sym (append_assoc (map f (range_with_len 0 i)) (f i ∷ []) (drop (i + 1) words)))
