-- Reading all words of a list, place by place.
use Rattle.std.proofs.Common.{◌≡◌, ℕ, List, [], ◌∷◌, ◌++◌, length, map, Option, None, Some, refl, sym, subst, ap, ◌∙◌, append_assoc, length-append, arith}
use Rattle.std.proofs.Math.Seq.{get_or-append_seam}
use Rattle.std.proofs.lemmas.Bool.Decides.{nat_tests}
use Rattle.std.proofs.lemmas.Iterator.{YieldsList}
use Rattle.std.specs.List.{filter_map, range_with_len}
use Rattle.std.specs.Option.{MatchOption, is_some, unwrap_or}
use Rattle.std.specs.Fn.{Called}
use Rattle.std.specs.Iterator.{AlwaysYields}
use Rattle.dynamic_storage.specs.Meaning.{word_at}
use mathlib.Core.Bool.{true≢false}
use denote.Param.Members.{Mut}

abbrev head : {B : Type 0} → B → List B → B
head d [] = d
head d (y ∷ ys) = y

abbrev tail : {B : Type 0} → List B → List B
tail [] = []
tail (y ∷ ys) = ys

some_item : {B : Type 0} (y : B) (ys : List B) → y ∷ ys ≡ [] → ⊥
some_item y ys e = omega (arith, ap length e)

-- an iterator through map_while, whose closure gives something for each item
module _ {M S A B C F : Type 0} (source : M → S) (callee : M → F) (steps : S → Option A → S → Type 0) (v : A → B) (g : Mut F (A × Unit {0}) (Option C)) (h : B → Option C) (f : F)
    (k : (x : A) (r : Option C) (q : F) → Called g f (x, tt) r q → (q ≡ f) × (r ≡ h (v x))) where
  abbrev turns : M → Option C → M → Type 0
  turns s r t = (o : Option A) × steps (source s) o (source t)
      × MatchOption o ((r ≡ None) × (callee t ≡ callee s)) (λ x. Called g (callee s) (x, tt) r (callee t))

  given : (s j : M) (r : Option C) (x : A) → callee s ≡ f → Called g (callee s) (x, tt) r (callee j) → (callee j ≡ f) × (r ≡ h (v x))
  given s j r x a c = k x r (callee j) (subst (λ w. Called g w (x, tt) r (callee j)) a c)

  none_left : (s j : M) (c : C) (o : Option A) → AlwaysYields steps v (source s) [] → steps (source s) o (source j)
      → MatchOption o ((Some c ≡ None) × (callee j ≡ callee s)) (λ x. Called g (callee s) (x, tt) (Some c) (callee j)) → ⊥
  none_left s j c None e p m = true≢false (ap is_some m.0)
  none_left s j c (Some x) e p m = e x (source j) p

  goes_on : (s j : M) (y : B) (ys : List B) (z : C) (r : Option C) (o : Option A) → r ≡ None → h y ≡ Some z → callee s ≡ f → AlwaysYields steps v (source s) (y ∷ ys) → steps (source s) o (source j)
      → MatchOption o ((r ≡ None) × (callee j ≡ callee s)) (λ x. Called g (callee s) (x, tt) r (callee j)) → ⊥
  goes_on s j y ys z r None n d a e p m = e.0 (source j) p
  goes_on s j y ys z r (Some x) n d a e p m = true≢false (ap is_some (sym (sym n ∙ ((given s j r x a m).1 ∙ (ap h (e.1 x (source j) p).0 ∙ d)))))

  gives : (s j : M) (y : B) (ys : List B) (z c : C) (o : Option A) → h y ≡ Some z → callee s ≡ f → AlwaysYields steps v (source s) (y ∷ ys) → steps (source s) o (source j)
      → MatchOption o ((Some c ≡ None) × (callee j ≡ callee s)) (λ x. Called g (callee s) (x, tt) (Some c) (callee j)) → (Some c ≡ Some z) × (callee j ≡ f) × AlwaysYields steps v (source j) ys
  gives s j y ys z c None d a e p m = absurd (true≢false (ap is_some m.0))
  gives s j y ys z c (Some x) d a e p m =
      let n = e.1 x (source j) p in
      let q = given s j (Some c) x a m in
      (q.1 ∙ (ap h n.0 ∙ d), q.0, n.1)

  always : (ys : List B) (zs : List C) (s : M) → map h ys ≡ map Some zs → callee s ≡ f → AlwaysYields steps v (source s) ys → AlwaysYields turns (λ c. c) s zs
  always [] [] s e a y = λ c j p. none_left s j c p.0 y p.1 p.2
  always [] (z ∷ zs) s e a y = absurd (some_item (Some z) (map Some zs) (sym e))
  always (b ∷ ys) [] s e a y = absurd (some_item (h b) (map h ys) e)
  always (b ∷ ys) (z ∷ zs) s e a y =
      let first : h b ≡ Some z = ap (head (Some z)) e in
      let rest : map h ys ≡ map Some zs = ap tail e in (
        (λ j p. goes_on s j b ys z None p.0 refl first a y p.1 p.2),
        λ c j p. let n = gives s j b ys z c p.0 first a y p.1 p.2 in (ap (λ o. unwrap_or o c) n.0, always ys zs j rest n.1 n.2),
      )

pub YieldsList-from_map_while : {M S A B C F : Type 0} (source : M → S) (callee : M → F) {steps : S → Option A → S → Type 0} {v : A → B} {ys : List B} {s : M} (g : Mut F (A × Unit {0}) (Option C)) (h : B → Option C) (zs : List C) {f : F}
    → YieldsList steps v (source s) ys → callee s ≡ f → (k : (x : A) (r : Option C) (q : F) → Called g f (x, tt) r q → (q ≡ f) × (r ≡ h (v x))) → map h ys ≡ map Some zs → YieldsList (turns source callee steps v g h f k) (λ c. c) s zs
YieldsList-from_map_while {M} {S} {A} {B} {C} {F} source callee {steps} {v} {ys} {s} g h zs {f} e a k m = record { runs = always source callee steps v g h f k ys zs s m a e.runs }

-- the word after some words is read at their length
word_after : (before : List ℕ) (word : ℕ) (rest : List ℕ) → word_at (before ++ word ∷ rest) (length before) ≡ Some word
word_after before word rest = grind (arith, nat_tests, length-append, get_or-append_seam before word rest 0)

-- reading on from a place gives each word from there on
each_on : (before rest : List ℕ) → map (word_at (before ++ rest)) (range_with_len (length before) (length rest)) ≡ map Some rest
each_on before [] = refl
each_on before (word ∷ rest) =
    let on : map (word_at ((before ++ word ∷ []) ++ rest)) (range_with_len (length (before ++ word ∷ [])) (length rest)) ≡ map Some rest = each_on (before ++ word ∷ []) rest in
    grind (arith, word_after before word rest, on, append_assoc before (word ∷ []) rest, length-append before (word ∷ []))

pub read_each : (words : List ℕ) → map (word_at words) (range_with_len 0 (length words)) ≡ map Some words
read_each words = each_on [] words

-- filter_map keeps all where each item gives one
all_kept : {B C : Type 0} (h : B → Option C) (ys : List B) (zs : List C) → map h ys ≡ map Some zs → filter_map h ys ≡ zs
all_kept h [] [] e = refl
all_kept h [] (z ∷ zs) e = absurd (some_item (Some z) (map Some zs) (sym e))
all_kept h (y ∷ ys) [] e = absurd (some_item (h y) (map h ys) e)
all_kept h (y ∷ ys) (z ∷ zs) e =
    let first : h y ≡ Some z = ap (head (Some z)) e in
    let rest : map h ys ≡ map Some zs = ap tail e in
    rw first (ap (λ l. z ∷ l) (all_kept h ys zs rest))

-- reading on from a place gives the words from there on
read_on : (before rest : List ℕ) → filter_map (word_at (before ++ rest)) (range_with_len (length before) (length rest)) ≡ rest
read_on before rest = all_kept (word_at (before ++ rest)) (range_with_len (length before) (length rest)) rest (each_on before rest)

pub read_all : (words : List ℕ) → filter_map (word_at words) (range_with_len 0 (length words)) ≡ words
read_all words = read_on [] words
