-- The words of a channel on the way through a call: what they say of the channel, and that nothing else was changed.
use Rattle.std.proofs.Common.{◌≡◌, ℕ, ◌/◌, ◌<◌, ◌≤◌, true, List, [], ◌∷◌, ◌++◌, length, get_or, set, sym, refl, ap, ◌∙◌, subst, arith}
use Rattle.std.proofs.lemmas.Bool.{and_parts}
use Rattle.std.proofs.lemmas.List.{get_or-set_other}
use Rattle.shm_allocator.specs.Offsets.{segment_of, offset_of}
use Rattle.connection_words.specs.declared.settings.Settings.{Settings}
use Rattle.connection_words.specs.Settings.{buffer, segments, samples, completions}
use Rattle.connection_words.specs.Places.{needed, submission_of, completion_of, state_at, size_at, mark_at}
use Rattle.connection_words.specs.Soundness.{settings_of}
use Rattle.connection_words.specs.Queues.{count, entry, entries, pushed, popped, Belongs, Placed}
use Rattle.connection_words.specs.Chunks.{names}
use Rattle.connection_words.specs.Laws.{Side, submission, completion, queue_of, SameAt}
use Rattle.connection_words.proofs.Apart.{channels_first, queue_inside, queues_placed}
use Rattle.connection_words.proofs.Order.{push_only, pop_only}
use Rattle.zero_copy_connection.specs.declared.mark.Mark.{Mark}
use Rattle.zero_copy_connection.specs.declared.mark.Mark.TheVariants.{Used}
use Rattle.zero_copy_connection.specs.Marks.{mark_word}
use Rattle.zero_copy_connection.specs.Sending.{recorded}
use Rattle.channel_laws.specs.Calls.{State, state_of}
use Rattle.channel_laws.specs.Regions.{Only}
use Rattle.channel_laws.specs.Readings.{settings, waiting, returned, size_in, mark_in, state_in, Shows, resized, remarked, names_used}
use Rattle.channel_laws.proofs.Regions.{named, mine_mark, mine_size, only_none, only_set, only_header, only_push_sub, only_push_comp, only_pop_sub, only_pop_comp}
use Rattle.channel_laws.proofs.Sounds.{settings_same, Open}
use Rattle.channel_laws.proofs.Marks.{resized_here, resized_other, remarked_here, remarked_other}
use Rattle.channel_laws.proofs.Views.{QueueIs, View, count_is, oldest_is, within_sub, within_comp, view_of, push_sub, push_comp, pop_sub, pop_comp, write_size, write_mark}

-- words that were changed at places of channel c alone, behind its state, and what they say of it
pub record Stage (t : State) (c : ℕ) (now w r : List ℕ) (sizes : ℕ → ℕ) (marks : ℕ → ℕ → ℕ) : Type 0 where
  pub only : Only (settings t) c t.words now
  pub view : View (settings t) c now w r sizes marks
  pub state : SameAt now t.words (state_at (settings t) c)

module _ (t : State) (c : ℕ) (good : Open t.condition t.words c) where
  abbrev s : Settings
  s = settings t

  pub stage_of_lem : Stage t c t.words (waiting t c) (returned t c) (size_in t c) (mark_in t c)
  stage_of_lem = record { only = only_none s c t.words; view = view_of s c t.words good.sub good.comp; state = refl }

  pub waiting_count : count t.words (submission_of s c) ≡ length (waiting t c)
  waiting_count = count_is t.words (submission_of s c) (waiting t c) stage_of_lem.view.sub

  pub returned_count : count t.words (completion_of s c) ≡ length (returned t c)
  returned_count = count_is t.words (completion_of s c) (returned t c) stage_of_lem.view.comp

  -- the oldest value that waits to be received, and the oldest that waits to be reclaimed
  pub waiting_first : (x : ℕ) (rest : List ℕ) → waiting t c ≡ x ∷ rest → entry t.words (submission_of s c) 0 ≡ x
  waiting_first x rest is =
      oldest_is t.words (submission_of s c) x rest (within_sub s c good.limits good.channel t.words good.room)
      (subst (QueueIs t.words (submission_of s c)) is stage_of_lem.view.sub)

  pub returned_first_lem : (x : ℕ) (rest : List ℕ) → returned t c ≡ x ∷ rest → entry t.words (completion_of s c) 0 ≡ x
  returned_first_lem x rest is =
      oldest_is t.words (completion_of s c) x rest (within_comp s c good.limits good.channel t.words good.room)
      (subst (QueueIs t.words (completion_of s c)) is stage_of_lem.view.comp)

  -- the state of the channel is no place of its queues
  state_free : (x : Side) → Belongs (queue_of s x c) (state_at s c) → ⊥
  state_free x b = omega (arith, queue_inside s x c (state_at s c) b)

  placed : (x : Side) → Placed (queue_of s x c)
  placed x = queues_placed s good.limits x c good.channel

  module _ {now w r : List ℕ} {sizes : ℕ → ℕ} {marks : ℕ → ℕ → ℕ} where
    long : Stage t c now w r sizes marks → needed s ≤ length now
    long g = omega (arith, good.room, g.only.long)

    pub stage_push_sub : (v : ℕ) → length w < buffer s → Stage t c now w r sizes marks → Stage t c (pushed now (submission_of s c) v) (w ++ v ∷ []) r sizes marks
    stage_push_sub v k g =
        record {
          only = only_push_sub s c t.words now g.only v good.limits good.channel;
          view = push_sub s c good.limits good.channel now (long g) w r sizes marks v k g.view;
          state = push_only now (submission_of s c) (placed submission) v (state_at s c) (state_free submission) ∙ g.state;
        }

    pub stage_push_comp : (v : ℕ) → length r < completions s → Stage t c now w r sizes marks → Stage t c (pushed now (completion_of s c) v) w (r ++ v ∷ []) sizes marks
    stage_push_comp v k g =
        record {
          only = only_push_comp s c t.words now g.only v good.limits good.channel;
          view = push_comp s c good.limits good.channel now (long g) w r sizes marks v k g.view;
          state = push_only now (completion_of s c) (placed completion) v (state_at s c) (state_free completion) ∙ g.state;
        }

    -- the size of a value's segment is written
    stage_size : (v size : ℕ) → segment_of v < segments s → Stage t c now w r sizes marks → Stage t c (set now (size_at s c (segment_of v)) size) w r (resized sizes v size) marks
    stage_size v size k g =
        record {
          only = only_set s c t.words now g.only (size_at s c (segment_of v)) size (mine_size s c (segment_of v) k);
          view =
              write_size s c good.limits good.channel now (long g) w r sizes marks (resized sizes v size) (segment_of v) size k
              (resized_here sizes v size)
              (resized_other sizes v size)
              g.view;
          state =
              get_or-set_other now (size_at s c (segment_of v)) (state_at s c) size 0 (λ e. omega (arith, channels_first s c c (segment_of v) good.channel))
              ∙ g.state;
        }

    -- the mark of a value's chunk is written, where the size of its segment is known
    stage_mark : (v size : ℕ) (to : Mark) → sizes (segment_of v) ≡ size → segment_of v < segments s → offset_of v / size < samples s → Stage t c now w r sizes marks → Stage t c (set now (mark_at s c (segment_of v) (offset_of v / size)) (mark_word to)) w r sizes (remarked marks sizes v to)
    stage_mark v size to e k k' g =
        let i : ℕ = offset_of v / size in
        record {
          only = only_set s c t.words now g.only (mark_at s c (segment_of v) i) (mark_word to) (mine_mark s c (segment_of v) i k k');
          view =
              write_mark s c good.limits good.channel now (long g) w r sizes marks (remarked marks sizes v to) (segment_of v) i (mark_word to) k k'
              (ap (λ (n : ℕ). remarked marks sizes v to (segment_of v) (offset_of v / n)) (sym e) ∙ remarked_here marks sizes v to)
              (λ h j _ _ ne. remarked_other marks sizes v to h j (λ a b. ne a (b ∙ ap (λ (n : ℕ). offset_of v / n) e)))
              g.view;
          state =
              get_or-set_other now (mark_at s c (segment_of v) i) (state_at s c) (mark_word to) 0 (λ z. omega (arith, channels_first s c c (segment_of v) good.channel))
              ∙ g.state;
        }

    -- the mark of a used chunk is changed
    pub stage_changed : (v : ℕ) (to : Mark) → names_used s sizes marks v ≡ true → Stage t c now w r sizes marks → Stage t c (set now (mark_at s c (segment_of v) (offset_of v / sizes (segment_of v))) (mark_word to)) w r sizes (remarked marks sizes v to)
    stage_changed v to e g =
        let n = named s (sizes (segment_of v)) v (and_parts (names s (sizes (segment_of v)) v) _ e).0 in
        stage_mark v (sizes (segment_of v)) to refl n.segment n.index g

  module _ {now w r : List ℕ} {sizes : ℕ → ℕ} {marks : ℕ → ℕ → ℕ} where
    pub stage_pop_sub : (x : ℕ) → Stage t c now (x ∷ w) r sizes marks → Stage t c (popped now (submission_of s c)) w r sizes marks
    stage_pop_sub x g =
        record {
          only = only_pop_sub s c t.words now g.only good.limits good.channel;
          view = pop_sub s c good.limits good.channel now (long g) w r sizes marks x g.view;
          state = pop_only now (submission_of s c) (placed submission) (state_at s c) (state_free submission) ∙ g.state;
        }

    pub stage_pop_comp : (x : ℕ) → Stage t c now w (x ∷ r) sizes marks → Stage t c (popped now (completion_of s c)) w r sizes marks
    stage_pop_comp x g =
        record {
          only = only_pop_comp s c t.words now g.only good.limits good.channel;
          view = pop_comp s c good.limits good.channel now (long g) w r sizes marks x g.view;
          state = pop_only now (completion_of s c) (placed completion) (state_at s c) (state_free completion) ∙ g.state;
        }

    pub stage_recorded : (v size : ℕ) → segment_of v < segments s → offset_of v / size < samples s → Stage t c now w r sizes marks → Stage t c (recorded now s c v size) w r (resized sizes v size) (remarked marks (resized sizes v size) v Used)
    stage_recorded v size k k' g = stage_mark v size Used (resized_here sizes v size) k k' (stage_size v size k g)

    -- what a stage says of a state with its words
    stage_settings : Stage t c now w r sizes marks → settings_of now ≡ s
    stage_settings g = settings_same t.words now (only_header s c t.words now good.channel g.only)

    pub shows : (counts : List ℕ) → Stage t c now w r sizes marks → Shows (state_of t.condition now counts) c w r sizes marks
    shows counts g =
        let is = stage_settings g in
        record {
          waiting_is = ap (λ (z : Settings). entries now (submission_of z c)) is ∙ g.view.sub.are;
          returned_is = ap (λ (z : Settings). entries now (completion_of z c)) is ∙ g.view.comp.are;
          sizes_are = λ h k. ap (λ (z : Settings). get_or now (size_at z c h) 0) is ∙ g.view.details.sizes h (rw (ap segments is) at k);
          marks_are = λ h i k m. ap (λ (z : Settings). get_or now (mark_at z c h i) 0) is ∙ g.view.details.marks h i (rw (ap segments is) at k) (rw (ap samples is) at m);
        }

    pub shows_state : (counts : List ℕ) → Stage t c now w r sizes marks → state_in (state_of t.condition now counts) c ≡ state_in t c
    shows_state counts g = ap (λ (z : Settings). get_or now (state_at z c) 0) (stage_settings g) ∙ g.state
