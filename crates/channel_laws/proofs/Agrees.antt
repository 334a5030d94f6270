-- What a call answers, and what it leaves on its channel, depends on the header and that channel alone.
use Rattle.std.proofs.Common.{◌≡◌, ℕ, ◌+◌, ◌-◌, ◌<◌, ◌≤◌, Bool, cond, not, ◌&&◌, eqb, ltb, leb, List, length, set, Some, None, Option, sym, refl, ap, ◌∙◌, subst, ⊎_elim, arith}
use Rattle.std.proofs.lemmas.Bool.{cases_lt}
use Rattle.std.proofs.lemmas.List.{get_or-set_same, set_past, length-set}
use Rattle.dynamic_storage.specs.declared.condition.Condition.{Condition}
use Rattle.connection_words.specs.declared.settings.Settings.{Settings}
use Rattle.connection_words.specs.Settings.{buffer, borrowed, completions}
use Rattle.connection_words.specs.Places.{submission_of, completion_of}
use Rattle.connection_words.specs.Soundness.{settings_of}
use Rattle.connection_words.specs.Queues.{count, entry, pushed, popped}
use Rattle.connection_words.specs.Laws.{submission, completion}
use Rattle.zero_copy_connection.specs.declared.mark.Mark.TheVariants.{Free, Used}
use Rattle.zero_copy_connection.specs.Answers.{Answer, nothing, value, flag, number, or_else, unless, answer_unless}
use Rattle.zero_copy_connection.specs.Marks.{mark_changed}
use Rattle.zero_copy_connection.specs.Checks.{channel_refusal}
use Rattle.zero_copy_connection.specs.Sending.{is_full, full_refusal, chunk_refusal, send_refusal, recorded, queued, sent_words, oldest, evicted, freed_answer, freed_words, returned_first, taken, freed, none_returned}
use Rattle.zero_copy_connection.specs.Receiving.{borrow_count, is_empty, receive_refusal, release_refusal}
use Rattle.channel_laws.specs.Calls.{State, Call, sends, receives, releases, reclaims, asks_data, asks_count, channel_of, answered, after}
use Rattle.channel_laws.specs.Regions.{Mine}
use Rattle.channel_laws.specs.Readings.{settings}
use Rattle.channel_laws.specs.Laws.{Agree, SameOutcome, OwnChannelDecides}
use Rattle.channel_laws.proofs.Sounds.{or_else_none, opened}
use Rattle.channel_laws.proofs.Frames.{framed, framed_settings, condition_stays}
use Rattle.channel_laws.proofs.Depends.{Same, lists_unless, lists_cond, answers_unless, count_same, entry_same, same_push, same_pop, same_recorded, same_queued, Freed, freed_same, settings_are, channel_refusal_same, chunk_refusal_same}

-- counters that agree on channel c
abbrev Counts : ℕ → List ℕ → List ℕ → Type 0
Counts c counts others = (length others ≡ length counts) × (borrow_count others c ≡ borrow_count counts c)

counts_set : (c n n' : ℕ) (counts others : List ℕ) → Counts c counts others → n' ≡ n → Counts c (set counts c n) (set others c n')
counts_set c n n' counts others h e = (
  length-set others c n' ∙ (h.0 ∙ sym (length-set counts c n)),
  ⊎_elim
      (λ (l : c < length counts). get_or-set_same others c n' 0 (omega arith) ∙ (e ∙ sym (get_or-set_same counts c n 0 l)))
      (λ (l : length counts ≤ c). rw (set_past others c n' (omega arith), set_past counts c n l) h.1)
      (cases_lt c (length counts)),
)

-- the later of two reasons to refuse
else_same : (o o' p p' : Option ℕ) → o' ≡ o → (o ≡ None → p' ≡ p) → or_else o' p' ≡ or_else o p
else_same o o' p p' e f = ap (λ (z : Option ℕ). or_else z p') e ∙ cases o f where
  cases : (o : Option ℕ) → (o ≡ None → p' ≡ p) → or_else o p' ≡ or_else o p
  cases (Some n) f = refl
  cases None f = f refl

cond_same : {A : Type 0} (b b' : Bool) (x x' y y' : A) → b' ≡ b → x' ≡ x → y' ≡ y → cond b' x' y' ≡ cond b x y
cond_same b b' x x' y y' e f g = rw (e, f, g)

-- what the calls answer and leave where nothing refuses them, by the settings
abbrev send_answers : ℕ → ℕ → ℕ → Settings → List ℕ → Answer
send_answers c v size s words = cond (is_full words s c) (freed_answer (evicted words s c v size) (oldest words s c) 27) nothing

abbrev send_leaves : ℕ → ℕ → ℕ → Settings → List ℕ → List ℕ
send_leaves c v size s words = cond (is_full words s c) (freed_words (evicted words s c v size) (sent_words words s c v size)) (sent_words words s c v size)

abbrev receive_answers : ℕ → Settings → List ℕ → Answer
receive_answers c s words = cond (is_empty words s c) nothing (value (entry words (submission_of s c) 0))

abbrev receive_leaves : ℕ → Settings → List ℕ → List ℕ
receive_leaves c s words = cond (is_empty words s c) words (popped words (submission_of s c))

abbrev receive_left : ℕ → Settings → List ℕ → List ℕ → List ℕ
receive_left c s words counts = cond (is_empty words s c) counts (set counts c (borrow_count counts c + 1))

abbrev reclaim_answers : ℕ → Settings → List ℕ → Answer
reclaim_answers c s words = cond (none_returned words s c) nothing (freed_answer (freed words s c) (returned_first words s c) 32)

abbrev reclaim_leaves : ℕ → Settings → List ℕ → List ℕ
reclaim_leaves c s words = cond (none_returned words s c) words (freed_words (freed words s c) (taken words s c))

module _ (words others : List ℕ) (c : ℕ) (g : Same (settings_of words) c words others) where
  abbrev s : Settings
  s = settings_of words

  is : settings_of others ≡ s
  is = settings_are words others c g

  -- a change by the settings of the other words is one by the same settings
  by_settings : (leaves : Settings → List ℕ → List ℕ) → Same s c (leaves s words) (leaves s others) → Same s c (leaves s words) (leaves (settings_of others) others)
  by_settings leaves h = subst (λ (z : Settings). Same s c (leaves s words) (leaves z others)) (sym is) h

  -- what is refused
  full_same : is_full others s c ≡ is_full words s c
  full_same = ap (leb (buffer s)) (count_same s c words others g submission)

  full_refusal_same : full_refusal others (settings_of others) c ≡ full_refusal words s c
  full_refusal_same =
      ap (λ (z : Settings). full_refusal others z c) is
      ∙ ap (λ (b : Bool). cond {A = Option ℕ} (b && not s.enable_safe_overflow) (Some 20) None) full_same

  send_refusal_same : (k : Condition) (v size : ℕ) → send_refusal k others c v size ≡ send_refusal k words c v size
  send_refusal_same k v size =
      else_same (channel_refusal k words c) (channel_refusal k others c) _ _ (channel_refusal_same words others c g k)
      (λ _.
      else_same (full_refusal words s c) (full_refusal others (settings_of others) c) (chunk_refusal words s c v size) (chunk_refusal others (settings_of others) c v size) full_refusal_same
      (λ _. ap (λ (z : Settings). chunk_refusal others z c v size) is ∙ chunk_refusal_same s c words others g v size))

  module _ (counts amounts : List ℕ) (h : Counts c counts amounts) where
    receive_refusal_same : (k : Condition) → receive_refusal k others amounts c ≡ receive_refusal k words counts c
    receive_refusal_same k =
        else_same (channel_refusal k words c) (channel_refusal k others c) _ _ (channel_refusal_same words others c g k)
        (λ _.
        cond_same (leb (borrowed s) (borrow_count counts c)) (leb (borrowed (settings_of others)) (borrow_count amounts c)) (Some 40) (Some 40) None None
        (ap (λ (z : Settings). leb (borrowed z) (borrow_count amounts c)) is ∙ ap (leb (borrowed s)) h.1)
        refl
        refl)

    release_refusal_same : (k : Condition) → release_refusal k others amounts c ≡ release_refusal k words counts c
    release_refusal_same k =
        else_same (channel_refusal k words c) (channel_refusal k others c) _ _ (channel_refusal_same words others c g k)
        (λ _.
        cond_same (leb (completions s) (count words (completion_of s c))) (leb (completions (settings_of others)) (count others (completion_of (settings_of others) c))) (Some 41) (Some 41) _ _
        (ap (λ (z : Settings). leb (completions z) (count others (completion_of z c))) is ∙ ap (leb (completions s)) (count_same s c words others g completion))
        refl
        (ap (λ (n : ℕ). cond {A = Option ℕ} (eqb n 0) (Some 42) None) h.1))

  -- send
  module _ (some : 0 < buffer s) (v size : ℕ) where
    oldest_same : oldest others s c ≡ oldest words s c
    oldest_same = entry_same s c words others g submission some

    sent_same : Same s c (sent_words words s c v size) (sent_words others s c v size)
    sent_same =
        subst (λ (b : Bool). Same s c (sent_words words s c v size) (queued (recorded others s c v size) s c v b)) (sym full_same)
        (same_queued s c (recorded words s c v size) (recorded others s c v size) (same_recorded s c words others g v size) v (is_full words s c))

    evicted_same : Freed s c (sent_words words s c v size) (sent_words others s c v size) (evicted words s c v size) (evicted others s c v size)
    evicted_same =
        subst (λ (e : ℕ). Freed s c (sent_words words s c v size) (sent_words others s c v size) (evicted words s c v size) (mark_changed (sent_words others s c v size) s c e Used Free)) (sym oldest_same)
        (freed_same s c (sent_words words s c v size) (sent_words others s c v size) sent_same Used Free (oldest words s c))

    send_answers_lem : send_answers c v size (settings_of others) others ≡ send_answers c v size s words
    send_answers_lem =
        ap (λ (z : Settings). send_answers c v size z others) is
        ∙ cond_same (is_full words s c) (is_full others s c) _ _ nothing nothing full_same
        (ap (λ (e : ℕ). freed_answer (evicted others s c v size) e 27) oldest_same ∙ evicted_same.answers (oldest words s c) 27)
        refl

    send_words_lem : Same s c (send_leaves c v size s words) (send_leaves c v size (settings_of others) others)
    send_words_lem =
        by_settings (send_leaves c v size)
        (lists_cond (Same s c) (is_full words s c) (is_full others s c) _ _ _ _ full_same evicted_same.leaves sent_same)

  -- receive and release
  empty_same : is_empty others (settings_of others) c ≡ is_empty words s c
  empty_same = ap (λ (z : Settings). is_empty others z c) is ∙ ap (λ (n : ℕ). eqb n 0) (count_same s c words others g submission)

  receive_answers_lem : 0 < buffer s → receive_answers c (settings_of others) others ≡ receive_answers c s words
  receive_answers_lem some =
      cond_same (is_empty words s c) (is_empty others (settings_of others) c) nothing nothing _ _ empty_same refl
      (ap (λ (z : Settings). value (entry others (submission_of z c) 0)) is ∙ ap value (entry_same s c words others g submission some))

  receive_words_lem : Same s c (receive_leaves c s words) (receive_leaves c (settings_of others) others)
  receive_words_lem =
      lists_cond (Same s c) (is_empty words s c) (is_empty others (settings_of others) c) words others _ _ empty_same g
      (by_settings (λ z ws. popped ws (submission_of z c)) (same_pop s c words others g submission))

  receive_counts_lem : (counts amounts : List ℕ) → Counts c counts amounts → Counts c (receive_left c s words counts) (receive_left c (settings_of others) others amounts)
  receive_counts_lem counts amounts h =
      lists_cond (Counts c) (is_empty words s c) (is_empty others (settings_of others) c) counts amounts _ _ empty_same h
      (counts_set c (borrow_count counts c + 1) (borrow_count amounts c + 1) counts amounts h (ap (λ (n : ℕ). n + 1) h.1))

  release_words_lem : (v : ℕ) → Same s c (pushed words (completion_of s c) v) (pushed others (completion_of (settings_of others) c) v)
  release_words_lem v = by_settings (λ z ws. pushed ws (completion_of z c) v) (same_push s c words others g completion v)

  -- reclaim
  none_same : none_returned others (settings_of others) c ≡ none_returned words s c
  none_same = ap (λ (z : Settings). none_returned others z c) is ∙ ap (λ (n : ℕ). eqb n 0) (count_same s c words others g completion)

  first_same : returned_first others s c ≡ returned_first words s c
  first_same = entry_same s c words others g completion (omega arith)

  taken_freed : Freed s c (taken words s c) (taken others s c) (freed words s c) (freed others s c)
  taken_freed =
      subst (λ (e : ℕ). Freed s c (taken words s c) (taken others s c) (freed words s c) (mark_changed (taken others s c) s c e Used Free)) (sym first_same)
      (freed_same s c (taken words s c) (taken others s c) (same_pop s c words others g completion) Used Free (returned_first words s c))

  reclaim_answers_lem : reclaim_answers c (settings_of others) others ≡ reclaim_answers c s words
  reclaim_answers_lem =
      cond_same (none_returned words s c) (none_returned others (settings_of others) c) nothing nothing _ _ none_same refl
      (ap (λ (z : Settings). freed_answer (freed others z c) (returned_first others z c) 32) is
      ∙ (ap (λ (e : ℕ). freed_answer (freed others s c) e 32) first_same ∙ taken_freed.answers (returned_first words s c) 32))

  reclaim_words_lem : Same s c (reclaim_leaves c s words) (reclaim_leaves c (settings_of others) others)
  reclaim_words_lem =
      lists_cond (Same s c) (none_returned words s c) (none_returned others (settings_of others) c) words others _ _ none_same g
      (by_settings (λ z ws. freed_words (freed ws z c) (taken ws z c)) taken_freed.leaves)

  data_answers : flag (ltb 0 (count others (submission_of (settings_of others) c))) ≡ flag (ltb 0 (count words (submission_of s c)))
  data_answers =
      ap (λ (z : Settings). flag (ltb 0 (count others (submission_of z c)))) is
      ∙ ap (λ (n : ℕ). flag (ltb 0 n)) (count_same s c words others g submission)

-- the outcome of a call, from what it answers and leaves
module _ (t u : State) (c : ℕ) (h : Agree c t u) where
  same : Same (settings t) c t.words u.words
  same = record { long = h.words_long; header = h.header; mine = h.region }

  counts : Counts c t.counts u.counts
  counts = (h.counts_long, h.counter)

  -- a channel that is open has a buffer
  has_buffer : channel_refusal t.condition t.words c ≡ None → 0 < buffer (settings t)
  has_buffer e = let good = opened t.condition t.words c e in let lim = good.limits in omega arith

  refusal_by : (refusal : Condition → Option ℕ) (o : Option ℕ) → refusal t.condition ≡ o → refusal u.condition ≡ o
  refusal_by refusal o e = ap refusal h.condition ∙ e

  channel_refusals : channel_refusal u.condition u.words c ≡ channel_refusal t.condition t.words c
  channel_refusals = refusal_by (λ k. channel_refusal k u.words c) (channel_refusal t.condition t.words c) (channel_refusal_same t.words u.words c same t.condition)

  outcome : (x : Call) → channel_of x ≡ c → answered u x ≡ answered t x → Same (settings t) c (after t x).words (after u x).words → Counts c (after t x).counts (after u x).counts → SameOutcome t u x
  outcome x e a w n =
      let kept : settings (after t x) ≡ settings t = framed_settings t.words (channel_of x) (after t x).words (framed t x) in
      record {
        answers = a;
        agree =
            subst (λ (d : ℕ). Agree d (after t x) (after u x)) (sym e)
            (record {
              condition = condition_stays u x ∙ (h.condition ∙ sym (condition_stays t x));
              words_long = w.long;
              counts_long = n.0;
              header = w.header;
              region = λ p m. w.mine p (subst (λ (z : Settings). Mine z c p) kept m);
              counter = n.1;
            });
      }

  -- by what is refused: the answers, the words and the counters
  module _ (o o' : Option ℕ) (r : o' ≡ o) where
    words_agree : (as-t as-u : List ℕ) → (o ≡ None → Same (settings t) c as-t as-u) → Same (settings t) c (unless o t.words as-t) (unless o' u.words as-u)
    words_agree as-t as-u f = lists_unless (Same (settings t) c) o o' t.words u.words as-t as-u r same f

    counts_agree : (as-t as-u : List ℕ) → Counts c as-t as-u → Counts c (unless o t.counts as-t) (unless o' u.counts as-u)
    counts_agree as-t as-u f = lists_unless (Counts c) o o' t.counts u.counts as-t as-u r counts (λ _. f)

module _ (t u : State) where
  sends_decide : (v size c : ℕ) → Agree c t u → SameOutcome t u (sends v size c)
  sends_decide v size c h =
      let o : Option ℕ = send_refusal t.condition t.words c v size in
      let o' : Option ℕ = send_refusal u.condition u.words c v size in
      let g = same t u c h in
      let r : o' ≡ o = refusal_by t u c h (λ k. send_refusal k u.words c v size) o (send_refusal_same t.words u.words c g t.condition v size) in
      let some : o ≡ None → 0 < buffer (settings t) = (λ e. has_buffer t u c h (or_else_none (channel_refusal t.condition t.words c) _ e).0) in
      outcome t u c h (sends v size c) refl
      (answers_unless o o' _ _ r (λ e. send_answers_lem t.words u.words c g (some e) v size))
      (words_agree t u c h o o' r _ _ (λ e. send_words_lem t.words u.words c g (some e) v size))
      (counts t u c h)

  receives_decide : (c : ℕ) → Agree c t u → SameOutcome t u (receives c)
  receives_decide c h =
      let o : Option ℕ = receive_refusal t.condition t.words t.counts c in
      let o' : Option ℕ = receive_refusal u.condition u.words u.counts c in
      let g = same t u c h in
      let n = counts t u c h in
      let r : o' ≡ o = refusal_by t u c h (λ k. receive_refusal k u.words u.counts c) o (receive_refusal_same t.words u.words c g t.counts u.counts n t.condition) in
      let some : o ≡ None → 0 < buffer (settings t) = (λ e. has_buffer t u c h (or_else_none (channel_refusal t.condition t.words c) _ e).0) in
      outcome t u c h (receives c) refl
      (answers_unless o o' _ _ r (λ e. receive_answers_lem t.words u.words c g (some e)))
      (words_agree t u c h o o' r _ _ (λ e. receive_words_lem t.words u.words c g))
      (counts_agree t u c h o o' r _ _ (receive_counts_lem t.words u.words c g t.counts u.counts n))

  releases_decide : (v c : ℕ) → Agree c t u → SameOutcome t u (releases v c)
  releases_decide v c h =
      let o : Option ℕ = release_refusal t.condition t.words t.counts c in
      let o' : Option ℕ = release_refusal u.condition u.words u.counts c in
      let g = same t u c h in
      let n = counts t u c h in
      let r : o' ≡ o = refusal_by t u c h (λ k. release_refusal k u.words u.counts c) o (release_refusal_same t.words u.words c g t.counts u.counts n t.condition) in
      outcome t u c h (releases v c) refl
      (answers_unless o o' nothing nothing r (λ e. refl))
      (words_agree t u c h o o' r _ _ (λ e. release_words_lem t.words u.words c g v))
      (counts_agree t u c h o o' r _ _ (counts_set c (borrow_count t.counts c - 1) (borrow_count u.counts c - 1) t.counts u.counts n (ap (λ (m : ℕ). m - 1) n.1)))

  reclaims_decide : (c : ℕ) → Agree c t u → SameOutcome t u (reclaims c)
  reclaims_decide c h =
      let o : Option ℕ = channel_refusal t.condition t.words c in
      let o' : Option ℕ = channel_refusal u.condition u.words c in
      let g = same t u c h in
      let r : o' ≡ o = channel_refusals t u c h in
      outcome t u c h (reclaims c) refl
      (answers_unless o o' _ _ r (λ e. reclaim_answers_lem t.words u.words c g))
      (words_agree t u c h o o' r _ _ (λ e. reclaim_words_lem t.words u.words c g))
      (counts t u c h)

  -- a call that only asks
  asked : (c : ℕ) (h : Agree c t u) (a a' : Answer) → a' ≡ a → answer_unless (channel_refusal u.condition u.words c) a' ≡ answer_unless (channel_refusal t.condition t.words c) a
  asked c h a a' e = answers_unless (channel_refusal t.condition t.words c) (channel_refusal u.condition u.words c) a a' (channel_refusals t u c h) (λ _. e)

pub own_channel_decides : OwnChannelDecides
own_channel_decides t u (sends v size c) h = sends_decide t u v size c h
own_channel_decides t u (receives c) h = receives_decide t u c h
own_channel_decides t u (releases v c) h = releases_decide t u v c h
own_channel_decides t u (reclaims c) h = reclaims_decide t u c h
own_channel_decides t u (asks_data c) h =
    outcome t u c h (asks_data c) refl
    (asked t u c h _ _ (data_answers t.words u.words c (same t u c h)))
    (same t u c h) (counts t u c h)
own_channel_decides t u (asks_count c) h =
    outcome t u c h (asks_count c) refl
    (asked t u c h (number (borrow_count t.counts c)) (number (borrow_count u.counts c)) (ap number h.counter))
    (same t u c h) (counts t u c h)
