use Rattle.std.proofs.Common.{◌≡◌, ℕ, ◌+◌, ◌<◌, ◌≤◌, List, [], ◌∷◌, ◌++◌, length, get_or, take, sym, refl, ap, ◌∙◌}
use Rattle.std.proofs.lemmas.List.{take_more, take_all}
use Rattle.history_run.specs.Course.{end_of, answers_of, Course}

module _ {S C A : Type 0} (next : S → C → S) (told : S → C → A) where
  end_more : (s : S) (cs : List C) (c : C) → end_of next s (cs ++ c ∷ []) ≡ next (end_of next s cs) c
  end_more s [] c = refl
  end_more s (d ∷ cs) c = end_more (next s d) cs c

  answers_more : (s : S) (cs : List C) (c : C)
      → answers_of next told s (cs ++ c ∷ []) ≡ answers_of next told s cs ++ told (end_of next s cs) c ∷ []
  answers_more s [] c = refl
  answers_more s (d ∷ cs) c = ap (λ (rs : List A). told s d ∷ rs) (answers_more (next s d) cs c)

  -- the step of a loop
  pub course_push : (s : S) (cs : List C) (i : ℕ) (rs vs : List A) (t u : S) (c : C) (a : A)
      → i < length cs → c ≡ get_or cs i c → vs ≡ rs ++ a ∷ [] → Course next told s (take i cs) rs t → a ≡ told t c → u ≡ next t c
      → Course next told s (take (i + 1) cs) vs u
  course_push s cs i rs vs t u c a l e f h p q =
      let g : take (i + 1) cs ≡ take i cs ++ c ∷ [] = take_more cs i c l ∙ ap (λ (x : C). take i cs ++ x ∷ []) (sym e) in
      let m : u ≡ end_of next s (take i cs ++ c ∷ []) = q ∙ (ap (λ (x : S). next x c) h.ends ∙ sym (end_more s (take i cs) c)) in
      let w : a ≡ told (end_of next s (take i cs)) c = p ∙ ap (λ (x : S). told x c) h.ends in
      let n : vs ≡ answers_of next told s (take i cs ++ c ∷ []) =
      f ∙ (ap (λ (x : List A). x ++ a ∷ []) h.answered
      ∙ (ap (λ (x : A). answers_of next told s (take i cs) ++ x ∷ []) w ∙ sym (answers_more s (take i cs) c))) in
      rw g (record { ends = m; answered = n })

  pub course_all : (s : S) (cs : List C) (i : ℕ) (rs : List A) (t : S) → length cs ≤ i → Course next told s (take i cs) rs t → Course next told s cs rs t
  course_all s cs i rs t l h = rw (take_all i cs l) at h

  -- the state alone
  pub end_push : (s : S) (cs : List C) (i : ℕ) (rs : List A) (t u : S) (c : C)
      → i < length cs → c ≡ get_or cs i c → Course next told s (take i cs) rs t → u ≡ next t c → u ≡ end_of next s (take (i + 1) cs)
  end_push s cs i rs t u c l e h q =
      let g : take (i + 1) cs ≡ take i cs ++ c ∷ [] = take_more cs i c l ∙ ap (λ (x : C). take i cs ++ x ∷ []) (sym e) in
      rw g (q ∙ (ap (λ (x : S). next x c) h.ends ∙ sym (end_more s (take i cs) c)))
