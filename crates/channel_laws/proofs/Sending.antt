-- What a send does to its channel.
use Rattle.std.proofs.Common.{◌≡◌, ℕ, ◌/◌, ◌<◌, ◌≤◌, Bool, true, false, cond, List, [], ◌∷◌, ◌++◌, length, set, Some, None, Option, sym, refl, ap, subst, arith}
use Rattle.std.proofs.lemmas.Bool.{leb-true, leb-false}
use Rattle.shm_allocator.specs.Offsets.{segment_of, offset_of}
use Rattle.connection_words.specs.Settings.{buffer}
use Rattle.connection_words.specs.Places.{submission_of, mark_at}
use Rattle.connection_words.specs.Queues.{count}
use Rattle.zero_copy_connection.specs.declared.mark.Mark.TheVariants.{Free, Used}
use Rattle.zero_copy_connection.specs.Answers.{Answer, refused, nothing, value, unless, answer_unless}
use Rattle.zero_copy_connection.specs.Marks.{mark_changed}
use Rattle.zero_copy_connection.specs.Sending.{is_full, send_refusal, recorded, queued, sent_words, oldest, evicted, freed_answer, freed_words}
use Rattle.channel_laws.specs.Calls.{State, state_of, sends, answered, after}
use Rattle.channel_laws.specs.Readings.{settings, waiting, returned, Shows, remarked, names_used}
use Rattle.channel_laws.specs.Moves.{sizes_with, marks_with, SendMoves}
use Rattle.channel_laws.proofs.Sounds.{Open, Sendable, sendable}
use Rattle.channel_laws.proofs.Views.{queue_high}
use Rattle.channel_laws.proofs.Refusals.{Plain, plain_send}
use Rattle.channel_laws.proofs.Marks.{changed_used, changed_unused}
use Rattle.channel_laws.proofs.Stages.{Stage, stage_of_lem, waiting_count, waiting_first, stage_recorded, stage_push_sub, stage_pop_sub, stage_changed, shows, shows_state}

module _ (t : State) (v size c : ℕ) where
  -- the sizes and marks with the sent value, and the words before the evicted value is judged
  abbrev sizes : ℕ → ℕ
  sizes = sizes_with t c v size

  abbrev marks : ℕ → ℕ → ℕ
  marks = marks_with t c v size

  abbrev sent : List ℕ
  sent = sent_words t.words (settings t) c v size

  abbrev leaving : List ℕ → State
  leaving now = state_of t.condition now t.counts

  -- what it answers and leaves, by whether the buffer is full
  abbrev answers_by : Bool → Answer
  answers_by full = cond full (freed_answer (evicted t.words (settings t) c v size) (oldest t.words (settings t) c) 27) nothing

  abbrev leaves_by : Bool → List ℕ
  leaves_by full = cond full (freed_words (evicted t.words (settings t) c v size) sent) sent

  -- it is refused before anything is done
  refusing : (m : ℕ) → Plain (Some m) → SendMoves t v size c (refused m) t
  refusing m h =
      record {
        appends = λ e. let z : ◌≡◌ {A = ℕ} 0 1 = cc in absurd (omega arith);
        evicts = λ x e. let z : ◌≡◌ {A = ℕ} 0 1 = cc in absurd (omega arith);
        corrupted = λ e. let same : m ≡ 27 = cc in absurd ((h m refl).0 same);
        counts_stay = refl;
        state_stays = refl;
      }

  module _ (good : Open t.condition t.words c) (able : Sendable t.words (settings t) c v size) where
    recording : Stage t c (recorded t.words (settings t) c v size) (waiting t c) (returned t c) sizes marks
    recording = stage_recorded t c good v size able.segment able.index (stage_of_lem t c good)

    -- there is room
    with_room : is_full t.words (settings t) c ≡ false → SendMoves t v size c nothing (leaving sent)
    with_room e =
        let few : count t.words (submission_of (settings t) c) < buffer (settings t) = leb-false _ _ e in
        let put : Stage t c sent (waiting t c ++ v ∷ []) (returned t c) sizes marks =
        subst (λ (b : Bool). Stage t c (queued (recorded t.words (settings t) c v size) (settings t) c v b) (waiting t c ++ v ∷ []) (returned t c) sizes marks) (sym e)
        (stage_push_sub t c good v (omega (arith, waiting_count t c good)) recording) in
        record {
          appends = λ _. shows t c good t.counts put;
          evicts = λ x h. let z : ◌≡◌ {A = ℕ} 0 1 = cc in absurd (omega arith);
          corrupted = λ h. let z : ◌≡◌ {A = ℕ} 0 1 = cc in absurd (omega arith);
          counts_stay = refl;
          state_stays = shows_state t c good t.counts put;
        }

    -- the oldest leaves
    module _ (x : ℕ) (rest : List ℕ) (is : waiting t c ≡ x ∷ rest) where
      few : length rest < buffer (settings t)
      few = omega (arith, queue_high t.words (submission_of (settings t) c) (waiting t c) (stage_of_lem t c good).view.sub, ap length is)

      replaced : Stage t c (queued (recorded t.words (settings t) c v size) (settings t) c v true) (rest ++ v ∷ []) (returned t c) sizes marks
      replaced =
          stage_push_sub t c good v few
          (stage_pop_sub t c good x (subst (λ (w : List ℕ). Stage t c (recorded t.words (settings t) c v size) w (returned t c) sizes marks) is recording))

      -- it names a used chunk, whose mark is cleared
      abbrev Evicts : ℕ → State → Type 0
      Evicts e u =
          (rest : List ℕ)
          × (waiting t c ≡ e ∷ rest)
          × (names_used (settings t) sizes marks e ≡ true)
          × Shows u c (rest ++ v ∷ []) (returned t c) sizes (remarked marks sizes e Free)

      evicting : (now : List ℕ) → names_used (settings t) sizes marks x ≡ true → Stage t c now (rest ++ v ∷ []) (returned t c) sizes (remarked marks sizes x Free) → SendMoves t v size c (value x) (leaving now)
      evicting now used g =
          record {
            appends = λ h. let z : ◌≡◌ {A = ℕ} 0 1 = cc in absurd (omega arith);
            evicts = λ e h. let same : x ≡ e = cc in subst (λ (y : ℕ). Evicts y (leaving now)) same (rest, is, used, shows t c good t.counts g);
            corrupted = λ h. let z : ◌≡◌ {A = ℕ} 0 1 = cc in absurd (omega arith);
            counts_stay = refl;
            state_stays = shows_state t c good t.counts g;
          }

      -- it names none
      corrupting : names_used (settings t) sizes marks x ≡ false → Stage t c sent (rest ++ v ∷ []) (returned t c) sizes marks → SendMoves t v size c (refused 27) (leaving sent)
      corrupting stale g =
          record {
            appends = λ h. let z : ◌≡◌ {A = ℕ} 0 1 = cc in absurd (omega arith);
            evicts = λ e h. let z : ◌≡◌ {A = ℕ} 0 1 = cc in absurd (omega arith);
            corrupted = λ h. (x, rest, is, stale, shows t c good t.counts g);
            counts_stay = refl;
            state_stays = shows_state t c good t.counts g;
          }

      abbrev Judged : ℕ → Option (List ℕ) → Type 0
      Judged e changed = SendMoves t v size c (freed_answer changed e 27) (leaving (freed_words changed sent))

      judged : Stage t c sent (rest ++ v ∷ []) (returned t c) sizes marks → (b : Bool) → names_used (settings t) sizes marks x ≡ b → Judged x (mark_changed sent (settings t) c x Used Free)
      judged g true used =
          subst (λ (o : Option (List ℕ)). Judged x o) (sym (changed_used (settings t) c sent sizes marks g.view.details x Free used))
          (evicting (set sent (mark_at (settings t) c (segment_of x) (offset_of x / sizes (segment_of x))) 0) used (stage_changed t c good x Free used g))
      judged g false stale =
          subst (λ (o : Option (List ℕ)). Judged x o) (sym (changed_unused (settings t) c sent sizes marks g.view.details x Free stale))
          (corrupting stale g)

      overflowing : is_full t.words (settings t) c ≡ true → Judged (oldest t.words (settings t) c) (evicted t.words (settings t) c v size)
      overflowing e =
          let put : Stage t c sent (rest ++ v ∷ []) (returned t c) sizes marks =
          subst (λ (b : Bool). Stage t c (queued (recorded t.words (settings t) c v size) (settings t) c v b) (rest ++ v ∷ []) (returned t c) sizes marks) (sym e) replaced in
          subst (λ (y : ℕ). Judged y (mark_changed sent (settings t) c y Used Free)) (sym (waiting_first t c good x rest is))
          (judged put (names_used (settings t) sizes marks x) refl)

    when_full : is_full t.words (settings t) c ≡ true → (w : List ℕ) → waiting t c ≡ w → SendMoves t v size c (freed_answer (evicted t.words (settings t) c v size) (oldest t.words (settings t) c) 27) (leaving (freed_words (evicted t.words (settings t) c v size) sent))
    when_full e [] is =
        let many : buffer (settings t) ≤ count t.words (submission_of (settings t) c) = leb-true _ _ e in
        let some = good.limits in
        absurd (omega (arith, waiting_count t c good, ap length is))
    when_full e (x ∷ rest) is = overflowing x rest is e

    sent_by_lem : (full : Bool) → is_full t.words (settings t) c ≡ full → SendMoves t v size c (answers_by full) (leaving (leaves_by full))
    sent_by_lem true e = when_full e (waiting t c) refl
    sent_by_lem false e = with_room e

  by_refusal : (o : Option ℕ) → send_refusal t.condition t.words c v size ≡ o → Plain o → SendMoves t v size c (answer_unless o (answers_by (is_full t.words (settings t) c))) (leaving (unless o t.words (leaves_by (is_full t.words (settings t) c))))
  by_refusal (Some m) e h = refusing m h
  by_refusal None e h =
      let known = sendable t.condition t.words c v size e in
      sent_by_lem known.0 known.2 (is_full t.words (settings t) c) refl

  pub send_moves : SendMoves t v size c (answered t (sends v size c)) (after t (sends v size c))
  send_moves = by_refusal (send_refusal t.condition t.words c v size) refl (plain_send t.condition t.words c v size)
