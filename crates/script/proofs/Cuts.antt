-- A text in two parts, and its first line or word.
use Rattle.std.proofs.Common.{◌≡◌, ℕ, suc, ◌+◌, Bool, true, false, cond, ◌||◌, eqb, List, [], ◌∷◌, ◌++◌, length, drop, slice_get, All, IfSome, sym, refl, ap, ◌∙◌, append_assoc, append-nil, length-append, arith}
use Rattle.std.proofs.lemmas.Bool.{or_parts, false≢true}
use Rattle.std.proofs.lemmas.Bool.Decides.{nat_tests}
use Rattle.script.specs.Lines.{lines_after, lines_of}
use Rattle.script.specs.Tokens.{blank, with_word, words_after, tokens}

-- ---- lines

pub line_grows : (l xs ys : List ℕ) → All (λ b. eqb b 10 ≡ false) xs → lines_after l (xs ++ ys) ≡ lines_after (l ++ xs) ys
line_grows l [] ys h = ap (λ (w : List ℕ). lines_after w ys) (sym (append-nil l))
line_grows l (b ∷ xs) ys h =
    let first : eqb b 10 ≡ false = h 0 b (omega arith) in
    rw first (line_grows (l ++ b ∷ []) xs ys (λ k d s. h (suc k) d (omega arith)) ∙ ap (λ (w : List ℕ). lines_after w ys) (append_assoc l (b ∷ []) xs))

line_ends : (l ys : List ℕ) → (length l + length ys ≡ 0 → ⊥) → IfSome (slice_get ys 0) (λ b. eqb b 10 ≡ true) → lines_after l ys ≡ l ∷ lines_of (drop 1 ys)
line_ends [] [] some h = absurd (some refl)
line_ends (c ∷ l) [] some h = refl
line_ends l (b ∷ ys) some h = rw h

pub first_line : (text line after rest : List ℕ) → (length text ≡ 0 → ⊥) → text ≡ line ++ after → rest ≡ drop 1 after
    → All (λ b. eqb b 10 ≡ false) line → IfSome (slice_get after 0) (λ b. eqb b 10 ≡ true) → lines_of text ≡ line ∷ lines_of rest
first_line text line after rest some whole past front back =
    rw (whole, past) (line_grows [] line after front ∙ line_ends line after (λ e. some (omega (arith, ap length whole, length-append line after))) back)

-- ---- words

no_hash : (b : ℕ) → blank b ≡ true → eqb b 35 ≡ false
no_hash b h = grind (arith, nat_tests)

pub skips : (xs ys : List ℕ) → All (λ b. blank b ≡ true) xs → tokens (xs ++ ys) ≡ tokens ys
skips [] ys h = refl
skips (b ∷ xs) ys h =
    let first : blank b ≡ true = h 0 b (omega arith) in
    rw (no_hash b first, first) (skips xs ys (λ k d s. h (suc k) d (omega arith)))

word_grows : (w xs ys : List ℕ) → All (λ b. (eqb b 35 || blank b) ≡ false) xs → words_after w (xs ++ ys) ≡ words_after (w ++ xs) ys
word_grows w [] ys h = ap (λ (v : List ℕ). words_after v ys) (sym (append-nil w))
word_grows w (b ∷ xs) ys h =
    let first = or_parts (eqb b 35) (blank b) (h 0 b (omega arith)) in
    rw (first.0, first.1) (word_grows (w ++ b ∷ []) xs ys (λ k d s. h (suc k) d (omega arith)) ∙ ap (λ (v : List ℕ). words_after v ys) (append_assoc w (b ∷ []) xs))

word_ends : (w ys : List ℕ) → IfSome (slice_get ys 0) (λ b. (eqb b 35 || blank b) ≡ true) → words_after w ys ≡ with_word w (tokens ys)
word_ends w [] h = refl
word_ends w (b ∷ ys) h = by_byte (eqb b 35) (blank b) h
  where
    by_byte : (p q : Bool) → (p || q) ≡ true → cond p (with_word w []) (cond q (with_word w (words_after [] ys)) (words_after (w ++ b ∷ []) ys)) ≡ with_word w (cond p [] (cond q (words_after [] ys) (words_after (b ∷ []) ys)))
    by_byte true q e = refl
    by_byte false true e = refl
    by_byte false false e = absurd (false≢true e)

-- the first word, between the blanks and what is left
pub first_word : (line blanks start word rest : List ℕ) → line ≡ blanks ++ start → start ≡ word ++ rest
    → All (λ b. blank b ≡ true) blanks → All (λ b. (eqb b 35 || blank b) ≡ false) word → IfSome (slice_get rest 0) (λ b. (eqb b 35 || blank b) ≡ true)
    → tokens line ≡ with_word word (tokens rest)
first_word line blanks start word rest whole cut before within after =
    rw (whole, cut) (skips blanks (word ++ rest) before ∙ (word_grows [] word rest within ∙ word_ends word rest after))

pub with_word_some : (w : List ℕ) (ws : List (List ℕ)) → (length w ≡ 0 → ⊥) → with_word w ws ≡ w ∷ ws
with_word_some [] ws h = absurd (h refl)
with_word_some (b ∷ w) ws h = refl

ends_at_hash : (bs : List ℕ) → IfSome (slice_get bs 0) (λ b. blank b ≡ false) → IfSome (slice_get bs 0) (λ b. (eqb b 35 || blank b) ≡ true) → tokens bs ≡ []
ends_at_hash [] dark stops = refl
ends_at_hash (b ∷ bs) dark stops = by_byte (eqb b 35) (blank b) dark stops
  where
    by_byte : (p q : Bool) → q ≡ false → (p || q) ≡ true → cond p [] (cond q (words_after [] bs) (words_after (b ∷ []) bs)) ≡ []
    by_byte true q e f = refl
    by_byte false q e f = absurd (false≢true (sym e ∙ f))

-- no word is left where that one is empty
pub no_word : (line blanks start word rest : List ℕ) → line ≡ blanks ++ start → start ≡ word ++ rest → All (λ b. blank b ≡ true) blanks
    → IfSome (slice_get start 0) (λ b. blank b ≡ false) → IfSome (slice_get rest 0) (λ b. (eqb b 35 || blank b) ≡ true) → length word ≡ 0
    → (tokens line ≡ []) × (tokens rest ≡ [])
no_word line blanks start [] rest whole cut before dark after e =
    let none : tokens rest ≡ [] = ends_at_hash rest (rw cut at dark) after in (rw (whole, cut) (skips blanks rest before ∙ none), none)
no_word line blanks start (b ∷ word) rest whole cut before dark after e = let never : ⊥ = omega arith in absurd never
