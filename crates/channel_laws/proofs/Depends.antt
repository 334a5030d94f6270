-- Words that agree on the header and on a channel agree again after each change that a call makes.
use Rattle.std.proofs.Common.{◌≡◌, ℕ, ◌+◌, ◌-◌, ◌/◌, ◌%◌, ◌<◌, ◌≤◌, Bool, true, false, cond, not, ◌&&◌, eqb, ltb, leb, ◌≢◌, List, length, get_or, set, Some, None, Option, sym, refl, ap, ◌∙◌, subst, inl, inr, ⊎_elim, arith}
use Rattle.std.proofs.lemmas.Nat.{mod_below}
use Rattle.std.proofs.lemmas.Bool.{cases_eq, cases_lt, cases_Bool, and_left, ltb-true, leb-false, cond-false}
use Rattle.std.proofs.lemmas.List.{get_or-set_same, get_or-set_other, set_past, length-set}
use Rattle.dynamic_storage.specs.declared.condition.Condition.{Condition}
use Rattle.shm_allocator.specs.Offsets.{segment_of, offset_of}
use Rattle.connection_words.specs.declared.settings.Settings.{Settings}
use Rattle.connection_words.specs.declared.ring.Ring.{Ring}
use Rattle.connection_words.specs.Settings.{segments, samples, channels}
use Rattle.connection_words.specs.Places.{submission_of, size_at}
use Rattle.connection_words.specs.Soundness.{settings_of}
use Rattle.connection_words.specs.Queues.{start, count, slot_of, entry, queue_sound, pushed, popped, channel_sound}
use Rattle.connection_words.specs.Chunks.{names, size_for, mark_of, chunk_mark}
use Rattle.connection_words.specs.Laws.{Side, submission, completion, queue_of, SameAt}
use Rattle.zero_copy_connection.specs.declared.mark.Mark.{Mark}
use Rattle.zero_copy_connection.specs.declared.mark.Mark.TheVariants.{Used}
use Rattle.zero_copy_connection.specs.Answers.{Answer, unless, answer_unless}
use Rattle.zero_copy_connection.specs.Marks.{is_mark, mark_word, changed_at, mark_changed}
use Rattle.zero_copy_connection.specs.Checks.{channel_refusal}
use Rattle.zero_copy_connection.specs.Sending.{chunk_refusal, recorded, queued, freed_answer, freed_words}
use Rattle.channel_laws.specs.Regions.{Mine}
use Rattle.channel_laws.proofs.Regions.{named, mine_queue, mine_size, mine_mark}
use Rattle.channel_laws.proofs.Sounds.{settings_same, sound_same}

-- as many words, and the same in the header and at the places of channel c
pub record Same (s : Settings) (c : ℕ) (words others : List ℕ) : Type 0 where
  pub long : length others ≡ length words
  pub header : (p : ℕ) → p < 8 → SameAt others words p
  pub mine : (p : ℕ) → Mine s c p → SameAt others words p

-- lists that are related, where both calls are refused or neither
pub lists_unless : (R : List ℕ → List ℕ → Type 0) (o o' : Option ℕ) (xs ys us vs : List ℕ) → o' ≡ o → R xs ys → (o ≡ None → R us vs) → R (unless o xs us) (unless o' ys vs)
lists_unless R o o' xs ys us vs e r f = subst (λ (z : Option ℕ). R (unless o xs us) (unless z ys vs)) (sym e) (cases o f) where
  cases : (o : Option ℕ) → (o ≡ None → R us vs) → R (unless o xs us) (unless o ys vs)
  cases (Some n) f = r
  cases None f = f refl

pub lists_cond : (R : List ℕ → List ℕ → Type 0) (b b' : Bool) (xs ys us vs : List ℕ) → b' ≡ b → R xs ys → R us vs → R (cond b xs us) (cond b' ys vs)
lists_cond R b b' xs ys us vs e r f = subst (λ (z : Bool). R (cond b xs us) (cond z ys vs)) (sym e) (cases b) where
  cases : (b : Bool) → R (cond b xs us) (cond b ys vs)
  cases true = r
  cases false = f

pub answers_unless : (o o' : Option ℕ) (a a' : Answer) → o' ≡ o → (o ≡ None → a' ≡ a) → answer_unless o' a' ≡ answer_unless o a
answers_unless o o' a a' e f = ap (λ (z : Option ℕ). answer_unless z a') e ∙ cases o f where
  cases : (o : Option ℕ) → (o ≡ None → a' ≡ a) → answer_unless o a' ≡ answer_unless o a
  cases (Some n) f = refl
  cases None f = f refl

-- a word written at one place of both
set_same : (words others : List ℕ) (p x q : ℕ) → length others ≡ length words → SameAt others words q → SameAt (set others p x) (set words p x) q
set_same words others p x q e h =
    ⊎_elim
    (λ (same : q ≡ p).
    ⊎_elim
    (λ (l : p < length words). rw same (get_or-set_same others p x 0 (omega arith) ∙ sym (get_or-set_same words p x 0 l)))
    (λ (l : length words ≤ p). rw (set_past others p x (omega arith), set_past words p x l) h)
    (cases_lt p (length words)))
    (λ (ne : q ≢ p). get_or-set_other others p q x 0 ne ∙ (h ∙ sym (get_or-set_other words p q x 0 ne)))
    (cases_eq q p)

module _ (s : Settings) (c : ℕ) (words others : List ℕ) (g : Same s c words others) where
  pub same_set : (p p' x x' : ℕ) → p' ≡ p → x' ≡ x → Same s c (set words p x) (set others p' x')
  same_set p p' x x' e f =
      subst (λ (z : ℕ). Same s c (set words p x) (set others z x')) (sym e)
      (subst (λ (z : ℕ). Same s c (set words p x) (set others p z)) (sym f)
      (record {
        long = length-set others p x ∙ (g.long ∙ sym (length-set words p x));
        header = λ q h. set_same words others p x q g.long (g.header q h);
        mine = λ q m. set_same words others p x q g.long (g.mine q m);
      }))

  module _ (x : Side) where
    pub start_same : start others (queue_of s x c) ≡ start words (queue_of s x c)
    start_same = g.mine (queue_of s x c).heads (mine_queue s x c (queue_of s x c).heads (inl (inl refl)))

    pub count_same : count others (queue_of s x c) ≡ count words (queue_of s x c)
    count_same = g.mine ((queue_of s x c).heads + 1) (mine_queue s x c ((queue_of s x c).heads + 1) (inl (inr refl)))

    pub queue_sound_same : queue_sound others (queue_of s x c) ≡ queue_sound words (queue_of s x c)
    queue_sound_same = tests start_same count_same where
      tests : {a b d e : ℕ} → b ≡ a → e ≡ d → (ltb b (queue_of s x c).capacity && leb e (queue_of s x c).capacity) ≡ (ltb a (queue_of s x c).capacity && leb d (queue_of s x c).capacity)
      tests p q = rw (p, q)

    slot_same : (k : ℕ) → slot_of others (queue_of s x c) k ≡ slot_of words (queue_of s x c) k
    slot_same k = ap (λ (n : ℕ). (queue_of s x c).slots + (n + k) % (queue_of s x c).capacity) start_same

    pub entry_same : 0 < (queue_of s x c).capacity → entry others (queue_of s x c) 0 ≡ entry words (queue_of s x c) 0
    entry_same some =
        let below = mod_below (start words (queue_of s x c) + 0) (queue_of s x c).capacity some in
        ap (λ (p : ℕ). get_or others p 0) (slot_same 0)
        ∙ g.mine (slot_of words (queue_of s x c) 0) (mine_queue s x c (slot_of words (queue_of s x c) 0) (inr (omega arith, omega arith)))

  -- sizes and marks
  size_same : (v : ℕ) → segment_of v < segments s → size_for others s c v ≡ size_for words s c v
  size_same v l = g.mine (size_at s c (segment_of v)) (mine_size s c (segment_of v) l)

  chunk_same : (v : ℕ) → chunk_mark others s c v ≡ chunk_mark words s c v
  chunk_same v =
      ⊎_elim
      (λ (e : ltb (segment_of v) (segments s) ≡ true).
      ap (λ (n : ℕ). cond {A = Option ℕ} (names s n v) (Some (mark_of s c n v)) None) (size_same v (ltb-true _ _ e)))
      (λ (e : ltb (segment_of v) (segments s) ≡ false).
      cond-false (names s (size_for others s c v) v) _ _ (and_left _ _ e) ∙ sym (cond-false (names s (size_for words s c v) v) _ _ (and_left _ _ e)))
      (cases_Bool (ltb (segment_of v) (segments s)))

pub same_push : (s : Settings) (c : ℕ) (words others : List ℕ) → Same s c words others → (x : Side) (v : ℕ) → Same s c (pushed words (queue_of s x c) v) (pushed others (queue_of s x c) v)
same_push s c words others g x v =
    let q : Ring = queue_of s x c in
    same_set s c (set words (slot_of words q (count words q)) v) (set others (slot_of others q (count others q)) v)
    (same_set s c words others g (slot_of words q (count words q)) (slot_of others q (count others q)) v v
    (slot_same s c words others g x (count others q) ∙ ap (slot_of words q) (count_same s c words others g x))
    refl)
    (q.heads + 1) (q.heads + 1) (count words q + 1) (count others q + 1) refl (ap (λ (n : ℕ). n + 1) (count_same s c words others g x))

pub same_pop : (s : Settings) (c : ℕ) (words others : List ℕ) → Same s c words others → (x : Side) → Same s c (popped words (queue_of s x c)) (popped others (queue_of s x c))
same_pop s c words others g x =
    let q : Ring = queue_of s x c in
    same_set s c (set words q.heads ((start words q + 1) % q.capacity)) (set others q.heads ((start others q + 1) % q.capacity))
    (same_set s c words others g q.heads q.heads ((start words q + 1) % q.capacity) ((start others q + 1) % q.capacity) refl
    (ap (λ (n : ℕ). (n + 1) % q.capacity) (start_same s c words others g x)))
    (q.heads + 1) (q.heads + 1) (count words q - 1) (count others q - 1) refl (ap (λ (n : ℕ). n - 1) (count_same s c words others g x))

pub same_recorded : (s : Settings) (c : ℕ) (words others : List ℕ) → Same s c words others → (v size : ℕ) → Same s c (recorded words s c v size) (recorded others s c v size)
same_recorded s c words others g v size =
    same_set s c (set words (size_at s c (segment_of v)) size) (set others (size_at s c (segment_of v)) size)
    (same_set s c words others g (size_at s c (segment_of v)) (size_at s c (segment_of v)) size size refl refl)
    (mark_of s c size v) (mark_of s c size v) 1 1 refl refl

pub same_queued : (s : Settings) (c : ℕ) (words others : List ℕ) → Same s c words others → (v : ℕ) (full : Bool) → Same s c (queued words s c v full) (queued others s c v full)
same_queued s c words others g v true = same_push s c (popped words (submission_of s c)) (popped others (submission_of s c)) (same_pop s c words others g submission) submission v
same_queued s c words others g v false = same_push s c words others g submission v

-- a mark that is changed, or is not, in both
pub record Freed (s : Settings) (c : ℕ) (words others : List ℕ) (o o' : Option (List ℕ)) : Type 0 where
  pub answers : (v n : ℕ) → freed_answer o' v n ≡ freed_answer o v n
  pub leaves : Same s c (freed_words o words) (freed_words o' others)

module _ (s : Settings) (c : ℕ) (words others : List ℕ) (g : Same s c words others) (from to : Mark) where
  freed_if : (p : ℕ) (b : Bool) → Freed s c words others (cond b (Some (set words p (mark_word to))) None) (cond b (Some (set others p (mark_word to))) None)
  freed_if p true = record { answers = λ v n. refl; leaves = same_set s c words others g p p (mark_word to) (mark_word to) refl refl }
  freed_if p false = record { answers = λ v n. refl; leaves = g }

  freed_at : (m : Option ℕ) → ((p : ℕ) → m ≡ Some p → Mine s c p) → Freed s c words others (changed_at words from to m) (changed_at others from to m)
  freed_at (Some p) inside =
      subst (λ (b : Bool). Freed s c words others (changed_at words from to (Some p)) (cond b (Some (set others p (mark_word to))) None))
      (ap (is_mark from) (sym (g.mine p (inside p refl))))
      (freed_if p (is_mark from (get_or words p 0)))
  freed_at None inside = record { answers = λ v n. refl; leaves = g }

  mark_inside : (v size : ℕ) (b : Bool) → names s size v ≡ b → (p : ℕ) → cond {A = Option ℕ} b (Some (mark_of s c size v)) None ≡ Some p → Mine s c p
  mark_inside v size true e p f =
      let n = named s size v e in
      let same : mark_of s c size v ≡ p = cc in
      subst (λ (q : ℕ). Mine s c q) same (mine_mark s c (segment_of v) (offset_of v / size) n.segment n.index)
  mark_inside v size false e p f = let z : ◌≡◌ {A = ℕ} 0 1 = cc in absurd (omega arith)

  pub freed_same : (v : ℕ) → Freed s c words others (mark_changed words s c v from to) (mark_changed others s c v from to)
  freed_same v =
      subst (λ (m : Option ℕ). Freed s c words others (mark_changed words s c v from to) (changed_at others from to m)) (sym (chunk_same s c words others g v))
      (freed_at (chunk_mark words s c v) (mark_inside v (size_for words s c v) (names s (size_for words s c v) v) refl))

-- what the checks refuse
cond_rest : (b : Bool) (n : ℕ) (o o' : Option ℕ) → (b ≡ false → o' ≡ o) → cond b (Some n) o' ≡ cond b (Some n) o
cond_rest true n o o' f = refl
cond_rest false n o o' f = f refl

module _ (words others : List ℕ) (c : ℕ) (g : Same (settings_of words) c words others) where
  pub settings_are : settings_of others ≡ settings_of words
  settings_are = settings_same words others g.header

  channel_sound_same : channel_sound others (settings_of others) c ≡ channel_sound words (settings_of words) c
  channel_sound_same =
      ap (λ (z : Settings). channel_sound others z c) settings_are
      ∙ both (queue_sound_same (settings_of words) c words others g submission) (queue_sound_same (settings_of words) c words others g completion) where
        both : {a b d e : Bool} → b ≡ a → e ≡ d → (b && e) ≡ (a && d)
        both p q = rw (p, q)

  pub channel_refusal_same : (k : Condition) → channel_refusal k others c ≡ channel_refusal k words c
  unfolding channel_refusal
  channel_refusal_same k =
      picks (sound_same k words others g.long g.header) (ap (λ (z : Settings). leb (channels z) c) settings_are) channel_sound_same where
        picks : {a b d a' b' d' : Bool} → a' ≡ a → b' ≡ b → d' ≡ d → cond (not a') (Some 50) (cond b' (Some 51) (cond (not d') (Some 50) None)) ≡ cond (not a) (Some 50) (cond b (Some 51) (cond {A = Option ℕ} (not d) (Some 50) None))
        picks p q r = rw (p, q, r)

pub chunk_refusal_same : (s : Settings) (c : ℕ) (words others : List ℕ) → Same s c words others → (v size : ℕ) → chunk_refusal others s c v size ≡ chunk_refusal words s c v size
unfolding chunk_refusal
chunk_refusal_same s c words others g v size =
    cond_rest (leb (segments s) (segment_of v)) 21 _ _ (λ a.
    let l : segment_of v < segments s = leb-false _ _ a in
    cond_rest (eqb size 0) 22 _ _ (λ b.
    ap (λ (n : ℕ). cond (not (eqb n 0) && not (eqb n size)) (Some 23) (rest others)) (size_same s c words others g v l)
    ∙ cond_rest (not (eqb (size_for words s c v) 0) && not (eqb (size_for words s c v) size)) 23 _ _ (λ d.
    cond_rest (not (eqb (offset_of v % size) 0)) 24 _ _ (λ e.
    cond_rest (leb (samples s) (offset_of v / size)) 25 _ _ (λ f.
    ap (λ (n : ℕ). cond {A = Option ℕ} (is_mark Used n) (Some 26) None) (g.mine (mark_of s c size v) (mine_mark s c (segment_of v) (offset_of v / size) l (leb-false _ _ f)))))))) where
      rest : List ℕ → Option ℕ
      rest ws =
          cond (not (eqb (offset_of v % size) 0)) (Some 24)
          (cond (leb (samples s) (offset_of v / size)) (Some 25)
          (cond (is_mark Used (get_or ws (mark_of s c size v) 0)) (Some 26) None))
