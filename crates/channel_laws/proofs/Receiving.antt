-- What a receive and a release do to their channel.
use Rattle.std.proofs.Common.{◌≡◌, ℕ, ◌+◌, ◌-◌, ◌<◌, Bool, true, false, cond, eqb, leb, ◌≢◌, List, [], ◌∷◌, ◌++◌, length, set, Some, None, Option, sym, refl, ap, ◌∙◌, subst, arith}
use Rattle.std.proofs.lemmas.Bool.{leb-false, eqb-true, eqb-false}
use Rattle.std.proofs.lemmas.List.{get_or-set_same}
use Rattle.connection_words.specs.Settings.{completions}
use Rattle.connection_words.specs.Places.{submission_of, completion_of}
use Rattle.connection_words.specs.Queues.{count, entry, pushed, popped}
use Rattle.zero_copy_connection.specs.Answers.{Answer, refused, nothing, value, unless, answer_unless}
use Rattle.zero_copy_connection.specs.Checks.{channel_refusal}
use Rattle.zero_copy_connection.specs.Receiving.{borrow_count, is_empty, receive_refusal, release_refusal}
use Rattle.channel_laws.specs.Calls.{State, state_of, receives, releases, answered, after}
use Rattle.channel_laws.specs.Readings.{settings, waiting, returned, size_in, mark_in}
use Rattle.channel_laws.specs.Moves.{ReceiveMoves, ReleaseMoves}
use Rattle.channel_laws.proofs.Sounds.{cond_none, or_else_none, Open, opened}
use Rattle.channel_laws.proofs.Stages.{Stage, stage_of_lem, waiting_count, returned_count, waiting_first, stage_push_comp, stage_pop_sub, shows, shows_state}

pub none_of : (xs : List ℕ) → length xs ≡ 0 → xs ≡ []
none_of [] e = refl
none_of (x ∷ xs) e = absurd (omega arith)

-- receive
module _ (t : State) (c : ℕ) where
  abbrev taking : State
  taking = state_of t.condition (popped t.words (submission_of (settings t) c)) (set t.counts c (borrow_count t.counts c + 1))

  -- what it answers and leaves, by whether nothing waits
  abbrev answers_by : Bool → Answer
  answers_by none = cond none nothing (value (entry t.words (submission_of (settings t) c) 0))

  abbrev words_by : Bool → List ℕ
  words_by none = cond none t.words taking.words

  abbrev counts_by : Bool → List ℕ
  counts_by none = cond none t.counts taking.counts

  refusing_receive : (m : ℕ) → ReceiveMoves t c (refused m) t
  refusing_receive m =
      record {
        takes = λ v e. let z : ◌≡◌ {A = ℕ} 0 1 = cc in absurd (omega arith);
        empty = λ e. let z : ◌≡◌ {A = ℕ} 0 1 = cc in absurd (omega arith);
        state_stays = refl;
      }

  module _ (good : Open t.condition t.words c) where
    none_received : is_empty t.words (settings t) c ≡ true → ReceiveMoves t c nothing t
    none_received e =
        record {
          takes = λ v h. let z : ◌≡◌ {A = ℕ} 0 1 = cc in absurd (omega arith);
          empty = λ _. (none_of (waiting t c) (sym (waiting_count t c good) ∙ eqb-true _ 0 e), refl);
          state_stays = refl;
        }

    received : (x : ℕ) (rest : List ℕ) → waiting t c ≡ x ∷ rest → ReceiveMoves t c (value x) taking
    received x rest is =
        let left : Stage t c taking.words rest (returned t c) (size_in t c) (mark_in t c) =
        stage_pop_sub t c good x (subst (λ (w : List ℕ). Stage t c t.words w (returned t c) (size_in t c) (mark_in t c)) is (stage_of_lem t c good)) in
        let s = shows t c good taking.counts left in
        record {
          takes = λ v e.
              let same : x ≡ v = cc in (
                is ∙ (ap (λ (y : ℕ). y ∷ rest) same ∙ ap (λ (w : List ℕ). v ∷ w) (sym s.waiting_is)),
                record { waiting_is = refl; returned_is = s.returned_is; sizes_are = s.sizes_are; marks_are = s.marks_are },
                get_or-set_same t.counts c (borrow_count t.counts c + 1) 0,
              );
          empty = λ e. let z : ◌≡◌ {A = ℕ} 0 1 = cc in absurd (omega arith);
          state_stays = shows_state t c good taking.counts left;
        }

    some_received : is_empty t.words (settings t) c ≡ false → (w : List ℕ) → waiting t c ≡ w → ReceiveMoves t c (value (entry t.words (submission_of (settings t) c) 0)) taking
    some_received e [] is = absurd (eqb-false _ 0 e (waiting_count t c good ∙ ap length is))
    some_received e (x ∷ rest) is =
        subst (λ (y : ℕ). ReceiveMoves t c (value y) taking) (sym (waiting_first t c good x rest is)) (received x rest is)

    received_by_lem : (b : Bool) → is_empty t.words (settings t) c ≡ b → ReceiveMoves t c (answers_by b) (state_of t.condition (words_by b) (counts_by b))
    received_by_lem true e = none_received e
    received_by_lem false e = some_received e (waiting t c) refl

  receive_by : (o : Option ℕ) → receive_refusal t.condition t.words t.counts c ≡ o → ReceiveMoves t c (answer_unless o (answers_by (is_empty t.words (settings t) c))) (state_of t.condition (unless o t.words (words_by (is_empty t.words (settings t) c))) (unless o t.counts (counts_by (is_empty t.words (settings t) c))))
  receive_by (Some m) e = refusing_receive m
  receive_by None e =
      received_by_lem (opened t.condition t.words c (or_else_none (channel_refusal t.condition t.words c) _ e).0) (is_empty t.words (settings t) c) refl

  pub receive_moves : ReceiveMoves t c (answered t (receives c)) (after t (receives c))
  receive_moves = receive_by (receive_refusal t.condition t.words t.counts c) refl

-- release
module _ (t : State) (v c : ℕ) where
  abbrev giving : State
  giving = state_of t.condition (pushed t.words (completion_of (settings t) c) v) (set t.counts c (borrow_count t.counts c - 1))

  refusing_release : (m : ℕ) → ReleaseMoves t v c (refused m) t
  refusing_release m = record { appends = λ e. let z : ◌≡◌ {A = ℕ} 0 1 = cc in absurd (omega arith); state_stays = refl }

  released : Open t.condition t.words c → count t.words (completion_of (settings t) c) < completions (settings t) → borrow_count t.counts c ≢ 0 → ReleaseMoves t v c nothing giving
  released good few some =
      let put : Stage t c giving.words (waiting t c) (returned t c ++ v ∷ []) (size_in t c) (mark_in t c) =
      stage_push_comp t c good v (omega (arith, returned_count t c good)) (stage_of_lem t c good) in
      record {
        appends = λ _. (
          shows t c good giving.counts put,
          λ l. omega (arith, get_or-set_same t.counts c (borrow_count t.counts c - 1) 0 l),
        );
        state_stays = shows_state t c good giving.counts put;
      }

  release_by : (o : Option ℕ) → release_refusal t.condition t.words t.counts c ≡ o → ReleaseMoves t v c (answer_unless o nothing) (state_of t.condition (unless o t.words giving.words) (unless o t.counts giving.counts))
  release_by (Some m) e = refusing_release m
  release_by None e =
      let p = or_else_none (channel_refusal t.condition t.words c) _ e in
      let q = cond_none (leb (completions (settings t)) (count t.words (completion_of (settings t) c))) 41 _ p.1 in
      let r = cond_none (eqb (borrow_count t.counts c) 0) 42 None q.1 in
      released (opened t.condition t.words c p.0) (leb-false _ _ q.0) (eqb-false _ 0 r.0)

  pub release_moves : ReleaseMoves t v c (answered t (releases v c)) (after t (releases v c))
  release_moves = release_by (release_refusal t.condition t.words t.counts c) refl
