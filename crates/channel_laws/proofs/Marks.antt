-- Sizes and marks as functions of segment and sample, and what changing the mark of a value does.
use Rattle.std.proofs.Common.{◌≡◌, ℕ, ◌/◌, Bool, true, false, cond, ◌&&◌, eqb, ltb, ◌≢◌, List, get_or, set, Some, None, Option, sym, refl, ap, ◌∙◌, ⊎_elim}
use Rattle.std.proofs.lemmas.Bool.{cases_Bool, and_parts, and_from, and_left, ltb-true, eqb-true, eq-eqb, ne_eqb, cond-true, cond-false}
use Rattle.shm_allocator.specs.Offsets.{segment_of, offset_of}
use Rattle.connection_words.specs.declared.settings.Settings.{Settings}
use Rattle.connection_words.specs.Settings.{segments}
use Rattle.connection_words.specs.Places.{mark_at}
use Rattle.connection_words.specs.Chunks.{names, size_for, mark_of, chunk_mark}
use Rattle.zero_copy_connection.specs.declared.mark.Mark.{Mark}
use Rattle.zero_copy_connection.specs.declared.mark.Mark.TheVariants.{Used}
use Rattle.zero_copy_connection.specs.Marks.{is_mark, mark_word, changed_at, mark_changed}
use Rattle.channel_laws.specs.Readings.{resized, is_chunk, remarked, names_used}
use Rattle.channel_laws.proofs.Regions.{named}
use Rattle.channel_laws.proofs.Views.{Details}

-- sizes and marks where one is written
pub resized_here : (sizes : ℕ → ℕ) (v size : ℕ) → resized sizes v size (segment_of v) ≡ size
resized_here sizes v size = cond-true (eqb (segment_of v) (segment_of v)) size (sizes (segment_of v)) (eq-eqb (segment_of v) (segment_of v) refl)

pub resized_other : (sizes : ℕ → ℕ) (v size g : ℕ) → g ≢ segment_of v → resized sizes v size g ≡ sizes g
resized_other sizes v size g ne = cond-false (eqb g (segment_of v)) size (sizes g) (ne_eqb g (segment_of v) ne)

module _ (marks : ℕ → ℕ → ℕ) (sizes : ℕ → ℕ) (v : ℕ) (mark : Mark) where
  pub remarked_here : remarked marks sizes v mark (segment_of v) (offset_of v / sizes (segment_of v)) ≡ mark_word mark
  remarked_here = cond-true _ _ _ (and_from _ _ (eq-eqb (segment_of v) (segment_of v) refl) (eq-eqb (offset_of v / sizes (segment_of v)) (offset_of v / sizes (segment_of v)) refl))

  pub remarked_other : (g i : ℕ) → (g ≡ segment_of v → i ≡ offset_of v / sizes (segment_of v) → ⊥) → remarked marks sizes v mark g i ≡ marks g i
  remarked_other g i ne =
      ⊎_elim
      (λ (e : is_chunk sizes v g i ≡ true).
      let both = and_parts (eqb g (segment_of v)) (eqb i (offset_of v / sizes (segment_of v))) e in
      absurd (ne (eqb-true g (segment_of v) both.0) (eqb-true i (offset_of v / sizes (segment_of v)) both.1)))
      (λ (e : is_chunk sizes v g i ≡ false). cond-false (is_chunk sizes v g i) (mark_word mark) (marks g i) e)
      (cases_Bool (is_chunk sizes v g i))

right_false : (a b : Bool) → a ≡ true → (a && b) ≡ false → b ≡ false
right_false true b e f = f
right_false false b e f = cc

-- how a mark is changed, by what the details are
module _ (s : Settings) (c : ℕ) (now : List ℕ) (sizes : ℕ → ℕ) (marks : ℕ → ℕ → ℕ) (d : Details s c now sizes marks) (v : ℕ) where
  no_name : (size : ℕ) → ltb (segment_of v) (segments s) ≡ false → names s size v ≡ false
  no_name size e = and_left (ltb (segment_of v) (segments s)) _ e

  pub chunk_mark_lem : chunk_mark now s c v ≡ cond (names s (sizes (segment_of v)) v) (Some (mark_at s c (segment_of v) (offset_of v / sizes (segment_of v)))) None
  chunk_mark_lem =
      ⊎_elim
      (λ (e : ltb (segment_of v) (segments s) ≡ true).
      ap (λ (n : ℕ). cond {A = Option ℕ} (names s n v) (Some (mark_of s c n v)) None) (d.sizes (segment_of v) (ltb-true _ _ e)))
      (λ (e : ltb (segment_of v) (segments s) ≡ false).
      cond-false (names s (size_for now s c v) v) _ _ (no_name (size_for now s c v) e)
      ∙ sym (cond-false (names s (sizes (segment_of v)) v) _ _ (no_name (sizes (segment_of v)) e)))
      (cases_Bool (ltb (segment_of v) (segments s)))

  mark_is : names s (sizes (segment_of v)) v ≡ true → get_or now (mark_at s c (segment_of v) (offset_of v / sizes (segment_of v))) 0 ≡ marks (segment_of v) (offset_of v / sizes (segment_of v))
  mark_is e = let n = named s (sizes (segment_of v)) v e in d.marks (segment_of v) (offset_of v / sizes (segment_of v)) n.segment n.index

  changed_if : (to : Mark) (b : Bool) → names s (sizes (segment_of v)) v ≡ true → is_mark Used (marks (segment_of v) (offset_of v / sizes (segment_of v))) ≡ b → mark_changed now s c v Used to ≡ cond b (Some (set now (mark_at s c (segment_of v) (offset_of v / sizes (segment_of v))) (mark_word to))) None
  changed_if to b e f =
      ap (changed_at now Used to) (chunk_mark_lem ∙ cond-true (names s (sizes (segment_of v)) v) _ _ e)
      ∙ ap (λ (z : Bool). cond {A = Option (List ℕ)} z (Some (set now (mark_at s c (segment_of v) (offset_of v / sizes (segment_of v))) (mark_word to))) None) (ap (is_mark Used) (mark_is e) ∙ f)

  pub changed_used : (to : Mark) → names_used s sizes marks v ≡ true → mark_changed now s c v Used to ≡ Some (set now (mark_at s c (segment_of v) (offset_of v / sizes (segment_of v))) (mark_word to))
  changed_used to e = let both = and_parts (names s (sizes (segment_of v)) v) _ e in changed_if to true both.0 both.1

  pub changed_unused : (to : Mark) → names_used s sizes marks v ≡ false → mark_changed now s c v Used to ≡ None
  changed_unused to e =
      ⊎_elim
      (λ (f : names s (sizes (segment_of v)) v ≡ true). changed_if to false f (right_false _ _ f e))
      (λ (f : names s (sizes (segment_of v)) v ≡ false). ap (changed_at now Used to) (chunk_mark_lem ∙ cond-false (names s (sizes (segment_of v)) v) _ _ f))
      (cases_Bool (names s (sizes (segment_of v)) v))
