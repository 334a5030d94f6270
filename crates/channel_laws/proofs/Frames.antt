-- A call changes nothing outside its own channel.
use Rattle.std.proofs.Common.{◌≡◌, ℕ, ◌+◌, ◌-◌, ◌<◌, Bool, true, false, cond, ◌≢◌, List, length, get_or, set, Some, None, Option, sym, refl, ap, ◌∙◌, subst}
use Rattle.std.proofs.lemmas.List.{get_or-set_other, length-set}
use Rattle.dynamic_storage.specs.declared.condition.Condition.{Condition}
use Rattle.connection_words.specs.declared.settings.Settings.{Settings}
use Rattle.connection_words.specs.Settings.{Limits, channels}
use Rattle.connection_words.specs.Places.{submission_of, completion_of, state_at, size_at, mark_at}
use Rattle.connection_words.specs.Soundness.{settings_of}
use Rattle.connection_words.specs.Queues.{entries, pushed, popped}
use Rattle.connection_words.specs.Laws.{Side, submission, completion, queue_of, SameAt}
use Rattle.connection_words.proofs.Apart.{queues_placed}
use Rattle.connection_words.proofs.Order.{entries_depend}
use Rattle.zero_copy_connection.specs.declared.mark.Mark.TheVariants.{Free, Used}
use Rattle.zero_copy_connection.specs.Answers.{unless}
use Rattle.zero_copy_connection.specs.Checks.{channel_refusal}
use Rattle.zero_copy_connection.specs.Sending.{is_full, send_refusal, recorded, sent_words, freed_words, oldest, evicted, returned_first, taken, freed, none_returned}
use Rattle.zero_copy_connection.specs.Receiving.{borrow_count, receive_refusal, release_refusal, is_empty}
use Rattle.channel_laws.specs.Calls.{State, state_of, Call, sends, receives, releases, reclaims, asks_data, asks_count, channel_of, after}
use Rattle.channel_laws.specs.Regions.{Mine, Only}
use Rattle.channel_laws.specs.Readings.{settings}
use Rattle.channel_laws.specs.Laws.{ChannelStays, OthersAllStay}
use Rattle.channel_laws.proofs.Regions.{mine_queue, mine_state, mine_size, mine_mark, only_none, only_header, only_other, only_push, only_pop, only_recorded, only_queued, only_changed, only_cond}
use Rattle.channel_laws.proofs.Sounds.{settings_same, or_else_none, opened, sendable}

-- nothing was changed, or only places of a channel that is there
pub data Framed (words : List ℕ) (c : ℕ) (others : List ℕ) : Type 0 where
  unchanged : others ≡ words → Framed words c others
  within : Limits (settings_of words) → c < channels (settings_of words) → Only (settings_of words) c words others → Framed words c others

module _ (k : Condition) (words : List ℕ) (c : ℕ) where
  pub send_framed : (v size : ℕ) (o : Option ℕ) → send_refusal k words c v size ≡ o → Framed words c (unless o words (cond (is_full words (settings_of words) c) (freed_words (evicted words (settings_of words) c v size) (sent_words words (settings_of words) c v size)) (sent_words words (settings_of words) c v size)))
  send_framed v size (Some n) h = unchanged refl
  send_framed v size None h =
      let s : Settings = settings_of words in
      let known = sendable k words c v size h in
      let lim = known.0.limits in
      let l = known.0.channel in
      let sent : Only s c words (sent_words words s c v size) =
      only_queued s c words (recorded words s c v size) (only_recorded s c words words (only_none s c words) v size known.2.segment known.2.index) v (is_full words s c) lim l in
      within lim l
      (only_cond s c words (freed_words (evicted words s c v size) (sent_words words s c v size)) (sent_words words s c v size) (is_full words s c)
      (only_changed s c words (sent_words words s c v size) sent (oldest words s c) Used Free)
      sent)

  module _ (counts : List ℕ) where
    pub receive_framed : (o : Option ℕ) → receive_refusal k words counts c ≡ o → Framed words c (unless o words (cond (is_empty words (settings_of words) c) words (popped words (submission_of (settings_of words) c))))
    receive_framed (Some n) h = unchanged refl
    receive_framed None h =
        let s : Settings = settings_of words in
        let good = opened k words c (or_else_none (channel_refusal k words c) _ h).0 in
        within good.limits good.channel
        (only_cond s c words words (popped words (submission_of s c)) (is_empty words s c) (only_none s c words)
        (only_pop s c words words (only_none s c words) submission good.limits good.channel))

    pub release_framed : (v : ℕ) (o : Option ℕ) → release_refusal k words counts c ≡ o → Framed words c (unless o words (pushed words (completion_of (settings_of words) c) v))
    release_framed v (Some n) h = unchanged refl
    release_framed v None h =
        let s : Settings = settings_of words in
        let good = opened k words c (or_else_none (channel_refusal k words c) _ h).0 in
        within good.limits good.channel (only_push s c words words (only_none s c words) completion v good.limits good.channel)

  pub reclaim_framed : (o : Option ℕ) → channel_refusal k words c ≡ o → Framed words c (unless o words (cond (none_returned words (settings_of words) c) words (freed_words (freed words (settings_of words) c) (taken words (settings_of words) c))))
  reclaim_framed (Some n) h = unchanged refl
  reclaim_framed None h =
      let s : Settings = settings_of words in
      let good = opened k words c h in
      within good.limits good.channel
      (only_cond s c words words (freed_words (freed words s c) (taken words s c)) (none_returned words s c) (only_none s c words)
      (only_changed s c words (taken words s c) (only_pop s c words words (only_none s c words) completion good.limits good.channel) (returned_first words s c) Used Free))

pub framed : (t : State) (x : Call) → Framed t.words (channel_of x) (after t x).words
framed t (sends v size c) = send_framed t.condition t.words c v size (send_refusal t.condition t.words c v size) refl
framed t (receives c) = receive_framed t.condition t.words c t.counts (receive_refusal t.condition t.words t.counts c) refl
framed t (releases v c) = release_framed t.condition t.words c t.counts v (release_refusal t.condition t.words t.counts c) refl
framed t (reclaims c) = reclaim_framed t.condition t.words c (channel_refusal t.condition t.words c) refl
framed t (asks_data c) = unchanged refl
framed t (asks_count c) = unchanged refl

-- what is framed has the same length, header and settings
module _ (words : List ℕ) (c : ℕ) (others : List ℕ) where
  pub framed_long : Framed words c others → length others ≡ length words
  framed_long (unchanged e) = ap length e
  framed_long (within lim l o) = o.long

  pub framed_header : Framed words c others → (p : ℕ) → p < 8 → SameAt others words p
  framed_header (unchanged e) p h = ap (λ (w : List ℕ). get_or w p 0) e
  framed_header (within lim l o) p h = only_header (settings_of words) c words others l o p h

  pub framed_outside : Framed words c others → (p : ℕ) → (Mine (settings_of words) c p → ⊥) → SameAt others words p
  framed_outside (unchanged e) p h = ap (λ (w : List ℕ). get_or w p 0) e
  framed_outside (within lim l o) p h = o.elsewhere p h

  pub framed_settings : Framed words c others → settings_of others ≡ settings_of words
  framed_settings f = settings_same words others (framed_header f)

-- another channel reads the same
module _ (t : State) (c d : ℕ) (k : Condition) (words counts : List ℕ) (l : d < channels (settings t)) (ne : d ≢ c) (counter : borrow_count counts d ≡ borrow_count t.counts d) where
  channel_stays : Framed t.words c words → ChannelStays d t (state_of k words counts)
  channel_stays (unchanged e) =
      subst (λ (w : List ℕ). ChannelStays d t (state_of k w counts)) (sym e)
      (record { state = refl; waits = refl; returns = refl; sizes = λ g m. refl; marks = λ g i m n. refl; counter = counter })
  channel_stays (within lim m o) =
      let s : Settings = settings t in
      let is : settings_of words ≡ s = framed_settings t.words c words (within lim m o) in
      let same : (p : ℕ) → Mine s d p → SameAt words t.words p = only_other s d c t.words words ne l m o in
      let queue : (x : Side) → entries words (queue_of s x d) ≡ entries t.words (queue_of s x d) =
      (λ x. entries_depend t.words (queue_of s x d) (queues_placed s lim x d l) words (λ p b. same p (mine_queue s x d p b))) in
      record {
        state = ap (λ (z : Settings). get_or words (state_at z d) 0) is ∙ same (state_at s d) (mine_state s d);
        waits = ap (λ (z : Settings). entries words (submission_of z d)) is ∙ queue submission;
        returns = ap (λ (z : Settings). entries words (completion_of z d)) is ∙ queue completion;
        sizes = λ g h. ap (λ (z : Settings). get_or words (size_at z d g) 0) is ∙ same (size_at s d g) (mine_size s d g h);
        marks = λ g i h n. ap (λ (z : Settings). get_or words (mark_at z d g i) 0) is ∙ same (mark_at s d g i) (mine_mark s d g i h n);
        counter = counter;
      }

-- counters where that of one channel is written, if it is
abbrev Counted : List ℕ → ℕ → List ℕ → Type 0
Counted counts c others = (length others ≡ length counts) × ((d : ℕ) → d ≢ c → borrow_count others d ≡ borrow_count counts d)

counted_none : (counts : List ℕ) (c : ℕ) → Counted counts c counts
counted_none counts c = (refl, λ d ne. refl)

counted_set : (counts : List ℕ) (c n : ℕ) → Counted counts c (set counts c n)
counted_set counts c n = (length-set counts c n, λ d ne. get_or-set_other counts c d n 0 ne)

counted_unless : (counts : List ℕ) (c : ℕ) (o : Option ℕ) (others : List ℕ) → Counted counts c others → Counted counts c (unless o counts others)
counted_unless counts c (Some n) others h = counted_none counts c
counted_unless counts c None others h = h

counted_cond : (counts : List ℕ) (c : ℕ) (b : Bool) (others : List ℕ) → Counted counts c others → Counted counts c (cond b counts others)
counted_cond counts c true others h = counted_none counts c
counted_cond counts c false others h = h

counted : (t : State) (x : Call) → Counted t.counts (channel_of x) (after t x).counts
counted t (sends v size c) = counted_none t.counts c
counted t (receives c) =
    counted_unless t.counts c (receive_refusal t.condition t.words t.counts c) (cond (is_empty t.words (settings t) c) t.counts (set t.counts c (borrow_count t.counts c + 1)))
    (counted_cond t.counts c (is_empty t.words (settings t) c) (set t.counts c (borrow_count t.counts c + 1)) (counted_set t.counts c (borrow_count t.counts c + 1)))
counted t (releases v c) =
    counted_unless t.counts c (release_refusal t.condition t.words t.counts c) (set t.counts c (borrow_count t.counts c - 1)) (counted_set t.counts c (borrow_count t.counts c - 1))
counted t (reclaims c) = counted_none t.counts c
counted t (asks_data c) = counted_none t.counts c
counted t (asks_count c) = counted_none t.counts c

pub condition_stays : (t : State) (x : Call) → (after t x).condition ≡ t.condition
condition_stays t (sends v size c) = refl
condition_stays t (receives c) = refl
condition_stays t (releases v c) = refl
condition_stays t (reclaims c) = refl
condition_stays t (asks_data c) = refl
condition_stays t (asks_count c) = refl

pub others_stay : OthersAllStay
others_stay t x =
    let f = framed t x in
    let n = counted t x in
    record {
      condition = condition_stays t x;
      words_long = framed_long t.words (channel_of x) (after t x).words f;
      counts_long = n.0;
      header = framed_header t.words (channel_of x) (after t x).words f;
      outside = framed_outside t.words (channel_of x) (after t x).words f;
      counters = n.1;
      others = λ d l ne. channel_stays t (channel_of x) d (after t x).condition (after t x).words (after t x).counts l ne (n.1 d ne) f;
    }
