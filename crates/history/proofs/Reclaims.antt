-- A reclaim keeps the invariant of its channel.
use Rattle.std.proofs.Common.{◌≡◌, ℕ, ◌<◌, ◌≤◌, Bool, true, false, cond, List, [], ◌∷◌, length, set, Some, None, Option, sym, refl, ap, ◌∙◌, subst, arith}
use Rattle.std.proofs.lemmas.Bool.{eq-eqb, ne_eqb}
use Rattle.connection_words.specs.Settings.{channels}
use Rattle.connection_words.specs.Places.{needed, completion_of}
use Rattle.zero_copy_connection.specs.declared.mark.Mark.TheVariants.{Free, Used}
use Rattle.zero_copy_connection.specs.Answers.{nothing, unless, answer_unless}
use Rattle.zero_copy_connection.specs.Marks.{mark_changed}
use Rattle.zero_copy_connection.specs.Sending.{freed_answer, freed_words, returned_first, taken, freed, none_returned}
use Rattle.channel_laws.specs.Calls.{State, state_of, reclaims}
use Rattle.channel_laws.specs.Regions.{Only}
use Rattle.channel_laws.proofs.Regions.{only_none, only_pop_comp, only_changed}
use Rattle.channel_laws.proofs.Views.{View, view_as, pop_comp, length_popped}
use Rattle.history.specs.Books.{Books}
use Rattle.history.proofs.Moves.{takes_back, drained, reclaim_takes, reclaim_drains, refusal_moves}
use Rattle.history.proofs.Ledger.{total, back_left, all_back, total_reclaims, ledger_reclaims, ledger_reclaims_none}
use Rattle.history.proofs.Good.{Good, Step, st, own}
use Rattle.channel_laws.proofs.Refusals.{Plain}
use Rattle.history.proofs.Plain.{clean_refused, clean_nothing, clean_value}
use Rattle.history.proofs.Known.{lim, long, returned_count, waiting_high, returned_first_lem}
use Rattle.history.proofs.Struck.{mark_for, struck}

module _ (t : State) (b : Books) (c : ℕ) (g : Good (st t) c t b) (l : c < channels (st t)) where
  abbrev rest : List ℕ
  rest = taken t.words (st t) c

  rest_view : (x : ℕ) (r : List ℕ) → b.returned ≡ x ∷ r → View (st t) c rest b.waiting r b.size (total b)
  rest_view x r is =
      pop_comp (st t) c (lim t b c g) l t.words (long t b c g) b.waiting r b.size (total b) x
      (view_as (st t) c t.words b.waiting b.waiting b.returned (x ∷ r) b.size b.size (total b) (total b) refl is (λ _ _. refl) (λ _ _ _ _. refl) g.view)

  -- y is the value that left, and changed the words with its mark cleared
  reclaimed_some : (x : ℕ) (r : List ℕ) → b.returned ≡ x ∷ r → (y : ℕ) → y ≡ x → (changed : Option (List ℕ)) → changed ≡ mark_changed rest (st t) c x Used Free → Step (st t) c b (reclaims c) (freed_answer changed y 32) (state_of t.condition (freed_words changed rest) t.counts)
  reclaimed_some x r is y e changed f =
      let limits = lim t b c g in
      let longer : needed (st t) ≤ length rest = omega (arith, long t b c g, length_popped t.words (completion_of (st t) c)) in
      let both =
      struck (st t) c rest b.waiting r b.size (total b) (total (takes_back x b)) x limits l longer
      (all_back (st t) b x r g.ledger is).0
      g.ledger.few
      (λ h j _ _. total_reclaims (st t) b x r g.ledger is h j)
      (rest_view x r is) in
      let now : List ℕ = set rest (mark_for (st t) c b.size x) 0 in
      let only : Only (st t) c t.words (freed_words (mark_changed rest (st t) c x Used Free) rest) =
      only_changed (st t) c t.words rest (only_pop_comp (st t) c t.words t.words (only_none (st t) c t.words) limits l) x Used Free in
      let after : Good (st t) c (state_of t.condition now t.counts) (takes_back x b) =
      own (st t) c t b (takes_back x b) now t.counts l g
      (subst (λ (z : Option (List ℕ)). Only (st t) c t.words (freed_words z rest)) both.0 only)
      g.many
      g.counter
      (view_as (st t) c now b.waiting b.waiting r (takes_back x b).returned b.size b.size (total (takes_back x b)) (total (takes_back x b)) refl (sym (back_left (st t) b x r g.ledger is)) (λ _ _. refl) (λ _ _ _ _. refl) both.1)
      (ledger_reclaims (st t) b x r g.ledger is) in
      let is-freed : changed ≡ Some now = f ∙ both.0 in
      rw (is-freed, e) (record { good = rw (reclaim_takes b c x) after; oldest = tt; unrefused = λ _. tt; clean = clean_value x })

  abbrev Reclaimed : Bool → Type 0
  Reclaimed e =
      Step (st t) c b (reclaims c) (cond e nothing (freed_answer (freed t.words (st t) c) (returned_first t.words (st t) c) 32))
      (state_of t.condition (cond e t.words (freed_words (freed t.words (st t) c) rest)) t.counts)

  reclaimed_none : b.returned ≡ [] → Good (st t) c t (drained b)
  reclaimed_none is =
      own (st t) c t b (drained b) t.words t.counts l g (only_none (st t) c t.words) g.many g.counter g.view
      (ledger_reclaims_none (st t) b g.ledger (waiting_high t b c g) is)

  reclaimed_by_lem : (r : List ℕ) → b.returned ≡ r → Reclaimed (none_returned t.words (st t) c)
  reclaimed_by_lem [] is =
      let e : none_returned t.words (st t) c ≡ true = eq-eqb _ 0 (returned_count t b c g ∙ ap length is) in
      rw e (record { good = rw (reclaim_drains b c) (reclaimed_none is); oldest = tt; unrefused = λ _. tt; clean = clean_nothing })
  reclaimed_by_lem (x ∷ r) is =
      let e : none_returned t.words (st t) c ≡ false = ne_eqb _ 0 (λ z. let y : length b.returned ≡ length (x ∷ r) = ap length is in omega (arith, returned_count t b c g)) in
      let f : returned_first t.words (st t) c ≡ x = returned_first_lem t b c g l x r is in
      rw e
      (reclaimed_some x r is (returned_first t.words (st t) c) f (freed t.words (st t) c) (ap (λ (v : ℕ). mark_changed rest (st t) c v Used Free) f))

  pub reclaim_step : (o : Option ℕ) → Plain o → Step (st t) c b (reclaims c) (answer_unless o (cond (none_returned t.words (st t) c) nothing (freed_answer (freed t.words (st t) c) (returned_first t.words (st t) c) 32))) (state_of t.condition (unless o t.words (cond (none_returned t.words (st t) c) t.words (freed_words (freed t.words (st t) c) (taken t.words (st t) c)))) t.counts)
  reclaim_step (Some n) p = record { good = rw (refusal_moves (reclaims c) n b) g; oldest = tt; unrefused = λ _. tt; clean = clean_refused n p }
  reclaim_step None p = reclaimed_by_lem b.returned refl
