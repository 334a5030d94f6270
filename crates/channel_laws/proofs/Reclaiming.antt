-- What a reclaim does to its channel.
use Rattle.std.proofs.Common.{◌≡◌, ℕ, ◌/◌, Bool, true, false, cond, List, [], ◌∷◌, length, set, Some, None, Option, sym, refl, ap, ◌∙◌, subst, arith}
use Rattle.std.proofs.lemmas.Bool.{eqb-true, eqb-false}
use Rattle.shm_allocator.specs.Offsets.{segment_of, offset_of}
use Rattle.connection_words.specs.Places.{mark_at}
use Rattle.zero_copy_connection.specs.declared.mark.Mark.TheVariants.{Free, Used}
use Rattle.zero_copy_connection.specs.Answers.{Answer, refused, nothing, value, unless, answer_unless}
use Rattle.zero_copy_connection.specs.Marks.{mark_changed}
use Rattle.zero_copy_connection.specs.Checks.{channel_refusal}
use Rattle.zero_copy_connection.specs.Sending.{freed_answer, freed_words, returned_first, taken, freed, none_returned}
use Rattle.channel_laws.specs.Calls.{State, state_of, reclaims, answered, after}
use Rattle.channel_laws.specs.Readings.{settings, waiting, returned, size_in, mark_in, Shows, remarked, names_used}
use Rattle.channel_laws.specs.Moves.{ReclaimMoves}
use Rattle.channel_laws.proofs.Sounds.{Open, opened}
use Rattle.channel_laws.proofs.Refusals.{Plain, plain_channel}
use Rattle.channel_laws.proofs.Marks.{changed_used, changed_unused}
use Rattle.channel_laws.proofs.Stages.{Stage, stage_of_lem, returned_count, returned_first_lem, stage_pop_comp, stage_changed, shows, shows_state}
use Rattle.channel_laws.proofs.Receiving.{none_of}

module _ (t : State) (c : ℕ) where
  -- the words once the value has left the queue
  abbrev left : List ℕ
  left = taken t.words (settings t) c

  abbrev leaving : List ℕ → State
  leaving now = state_of t.condition now t.counts

  -- what it answers and leaves, by whether nothing was returned
  abbrev answers_by : Bool → Answer
  answers_by none = cond none nothing (freed_answer (freed t.words (settings t) c) (returned_first t.words (settings t) c) 32)

  abbrev leaves_by : Bool → List ℕ
  leaves_by none = cond none t.words (freed_words (freed t.words (settings t) c) left)

  -- it is refused before anything is done
  refusing : (m : ℕ) → Plain (Some m) → ReclaimMoves t c (refused m) t
  refusing m h =
      record {
        takes = λ v e. let z : ◌≡◌ {A = ℕ} 0 1 = cc in absurd (omega arith);
        corrupted = λ e. let same : m ≡ 32 = cc in absurd ((h m refl).1 same);
        empty = λ e. let z : ◌≡◌ {A = ℕ} 0 1 = cc in absurd (omega arith);
        counts_stay = refl;
        state_stays = refl;
      }

  module _ (good : Open t.condition t.words c) where
    none_reclaimed : none_returned t.words (settings t) c ≡ true → ReclaimMoves t c nothing t
    none_reclaimed e =
        record {
          takes = λ v h. let z : ◌≡◌ {A = ℕ} 0 1 = cc in absurd (omega arith);
          corrupted = λ h. let z : ◌≡◌ {A = ℕ} 0 1 = cc in absurd (omega arith);
          empty = λ _. (none_of (returned t c) (sym (returned_count t c good) ∙ eqb-true _ 0 e), refl);
          counts_stay = refl;
          state_stays = refl;
        }

    module _ (x : ℕ) (rest : List ℕ) (is : returned t c ≡ x ∷ rest) where
      popping : Stage t c left (waiting t c) rest (size_in t c) (mark_in t c)
      popping = stage_pop_comp t c good x (subst (λ (r : List ℕ). Stage t c t.words (waiting t c) r (size_in t c) (mark_in t c)) is (stage_of_lem t c good))

      -- what is known of a value that left, by whether it names a used chunk
      abbrev Left : ℕ → (ℕ → ℕ → ℕ) → Bool → State → Type 0
      Left v marks used u =
          (returned t c ≡ v ∷ returned u c)
          × (names_used (settings t) (size_in t c) (mark_in t c) v ≡ used)
          × Shows u c (waiting t c) (returned u c) (size_in t c) marks

      left_by : (now : List ℕ) (marks : ℕ → ℕ → ℕ) (used : Bool) → names_used (settings t) (size_in t c) (mark_in t c) x ≡ used → Stage t c now (waiting t c) rest (size_in t c) marks → Left x marks used (leaving now)
      left_by now marks used e g =
          let s = shows t c good t.counts g in (
            is ∙ ap (λ (r : List ℕ). x ∷ r) (sym s.returned_is),
            e,
            record { waiting_is = s.waiting_is; returned_is = refl; sizes_are = s.sizes_are; marks_are = s.marks_are },
          )

      taking : (now : List ℕ) → names_used (settings t) (size_in t c) (mark_in t c) x ≡ true → Stage t c now (waiting t c) rest (size_in t c) (remarked (mark_in t c) (size_in t c) x Free) → ReclaimMoves t c (value x) (leaving now)
      taking now used g =
          record {
            takes = λ v e. let same : x ≡ v = cc in subst (λ (y : ℕ). Left y (remarked (mark_in t c) (size_in t c) y Free) true (leaving now)) same (left_by now (remarked (mark_in t c) (size_in t c) x Free) true used g);
            corrupted = λ e. let z : ◌≡◌ {A = ℕ} 0 1 = cc in absurd (omega arith);
            empty = λ e. let z : ◌≡◌ {A = ℕ} 0 1 = cc in absurd (omega arith);
            counts_stay = refl;
            state_stays = shows_state t c good t.counts g;
          }

      corrupting : names_used (settings t) (size_in t c) (mark_in t c) x ≡ false → ReclaimMoves t c (refused 32) (leaving left)
      corrupting stale =
          let known = left_by left (mark_in t c) false stale popping in
          record {
            takes = λ v e. let z : ◌≡◌ {A = ℕ} 0 1 = cc in absurd (omega arith);
            corrupted = λ e. (x, known.0, known.1, known.2);
            empty = λ e. let z : ◌≡◌ {A = ℕ} 0 1 = cc in absurd (omega arith);
            counts_stay = refl;
            state_stays = shows_state t c good t.counts popping;
          }

      abbrev Judged : ℕ → Option (List ℕ) → Type 0
      Judged v changed = ReclaimMoves t c (freed_answer changed v 32) (leaving (freed_words changed left))

      judged : (b : Bool) → names_used (settings t) (size_in t c) (mark_in t c) x ≡ b → Judged x (mark_changed left (settings t) c x Used Free)
      judged true used =
          subst (λ (o : Option (List ℕ)). Judged x o) (sym (changed_used (settings t) c left (size_in t c) (mark_in t c) popping.view.details x Free used))
          (taking (set left (mark_at (settings t) c (segment_of x) (offset_of x / size_in t c (segment_of x))) 0) used (stage_changed t c good x Free used popping))
      judged false stale =
          subst (λ (o : Option (List ℕ)). Judged x o) (sym (changed_unused (settings t) c left (size_in t c) (mark_in t c) popping.view.details x Free stale))
          (corrupting stale)

      reclaimed : Judged (returned_first t.words (settings t) c) (freed t.words (settings t) c)
      reclaimed =
          subst (λ (y : ℕ). Judged y (mark_changed left (settings t) c y Used Free)) (sym (returned_first_lem t c good x rest is))
          (judged (names_used (settings t) (size_in t c) (mark_in t c) x) refl)

    some_reclaimed : none_returned t.words (settings t) c ≡ false → (r : List ℕ) → returned t c ≡ r → ReclaimMoves t c (answers_by false) (leaving (leaves_by false))
    some_reclaimed e [] is = absurd (eqb-false _ 0 e (returned_count t c good ∙ ap length is))
    some_reclaimed e (x ∷ rest) is = reclaimed x rest is

    reclaimed_by_lem : (b : Bool) → none_returned t.words (settings t) c ≡ b → ReclaimMoves t c (answers_by b) (leaving (leaves_by b))
    reclaimed_by_lem true e = none_reclaimed e
    reclaimed_by_lem false e = some_reclaimed e (returned t c) refl

  by_refusal : (o : Option ℕ) → channel_refusal t.condition t.words c ≡ o → Plain o → ReclaimMoves t c (answer_unless o (answers_by (none_returned t.words (settings t) c))) (leaving (unless o t.words (leaves_by (none_returned t.words (settings t) c))))
  by_refusal (Some m) e h = refusing m h
  by_refusal None e h = reclaimed_by_lem (opened t.condition t.words c e) (none_returned t.words (settings t) c) refl

  pub reclaim_moves : ReclaimMoves t c (answered t (reclaims c)) (after t (reclaims c))
  reclaim_moves = by_refusal (channel_refusal t.condition t.words c) refl (plain_channel t.condition t.words c)
