-- What the words say of a channel, and what becomes of it when a queue, a size or a mark is changed.
use Rattle.std.proofs.Common.{◌≡◌, ℕ, ◌+◌, ◌<◌, ◌≤◌, true, ltb, leb, ◌≢◌, List, [], ◌∷◌, ◌++◌, length, get_or, set, sym, refl, ap, ◌∙◌, subst, inl, inr, ⊎_elim, arith}
use Rattle.std.proofs.lemmas.Bool.{cases_eq, and_from, and_parts, lt-ltb, leb-true}
use Rattle.std.proofs.lemmas.List.{get_or-set_same, get_or-set_other, length-set}
use Rattle.connection_words.specs.declared.settings.Settings.{Settings}
use Rattle.connection_words.specs.declared.ring.Ring.{Ring}
use Rattle.connection_words.specs.Settings.{Limits, buffer, segments, samples, channels, completions}
use Rattle.connection_words.specs.Places.{stride, channel_at, needed, submission_of, completion_of, size_at, mark_at}
use Rattle.connection_words.specs.Queues.{start, count, entry, entries, queue_sound, pushed, popped, has_room, has_entry, Belongs, Placed}
use Rattle.connection_words.specs.Laws.{Side, submission, completion, queue_of, Within, SameAt}
use Rattle.connection_words.proofs.Apart.{channels_first, details_inside, marks_differ, sizes_differ, sizes_unmarked, queue_inside, queues_apart, queues_placed}
use Rattle.connection_words.proofs.Order.{push_only, pop_only, entries_depend, entries_number, push_appends, pop_takes, push_sound, pop_sound}
use Rattle.connection_words.proofs.Others.{stay}
use Rattle.channel_laws.specs.Regions.{Mine}
use Rattle.channel_laws.proofs.Regions.{mine_queue, mine_size, mine_mark}

-- a queue is sound and has these entries
pub record QueueIs (words : List ℕ) (q : Ring) (xs : List ℕ) : Type 0 where
  pub sound : queue_sound words q ≡ true
  pub are : entries words q ≡ xs

pub count_is : (words : List ℕ) (q : Ring) (xs : List ℕ) → QueueIs words q xs → count words q ≡ length xs
count_is words q xs h = sym (entries_number words q) ∙ ap length h.are

-- no more entries than there are slots
pub queue_high : (words : List ℕ) (q : Ring) (xs : List ℕ) → QueueIs words q xs → length xs ≤ q.capacity
queue_high words q xs h =
    let few : count words q ≤ q.capacity = leb-true _ _ (and_parts (ltb (start words q) q.capacity) (leb (count words q) q.capacity) h.sound).1 in
    omega (arith, count_is words q xs h)

-- words that agree at a queue's places have the same queue
pub queue_same : (words others : List ℕ) (q : Ring) (xs : List ℕ) → Placed q → ((p : ℕ) → Belongs q p → SameAt others words p) → QueueIs words q xs → QueueIs others q xs
queue_same words others q xs placed same o =
    record {
      sound = rw (same q.heads (inl (inl refl)), same (q.heads + 1) (inl (inr refl))) o.sound;
      are = entries_depend words q placed others same ∙ o.are;
    }

pub queue_pushed : (words : List ℕ) (q : Ring) (xs : List ℕ) (v : ℕ) → Within words q → length xs < q.capacity → QueueIs words q xs → QueueIs (pushed words q v) q (xs ++ v ∷ [])
queue_pushed words q xs v within l o =
    let room : has_room words q ≡ true = and_from _ _ o.sound (lt-ltb (count words q) q.capacity (omega (arith, count_is words q xs o))) in
    record {
      sound = push_sound words q within v room;
      are = push_appends words q within v room ∙ ap (λ (es : List ℕ). es ++ v ∷ []) o.are;
    }

module _ (words : List ℕ) (q : Ring) (x : ℕ) (xs : List ℕ) (within : Within words q) (o : QueueIs words q (x ∷ xs)) where
  some_entry : has_entry words q ≡ true
  some_entry =
      let n : count words q ≡ length (x ∷ xs) = count_is words q (x ∷ xs) o in
      and_from _ _ o.sound (lt-ltb 0 (count words q) (omega arith))

  both : entry words q 0 ∷ entries (popped words q) q ≡ x ∷ xs
  both = sym (pop_takes words q within some_entry) ∙ o.are

  pub oldest_is : entry words q 0 ≡ x
  oldest_is = let e : entry words q 0 ∷ entries (popped words q) q ≡ x ∷ xs = both in cc

  pub queue_popped : QueueIs (popped words q) q xs
  queue_popped =
      let e : entry words q 0 ∷ entries (popped words q) q ≡ x ∷ xs = both in
      record { sound = pop_sound words q within some_entry; are = cc }

pub length_pushed : (words : List ℕ) (q : Ring) (v : ℕ) → length (pushed words q v) ≡ length words
length_pushed words q v = simp length-set

pub length_popped : (words : List ℕ) (q : Ring) → length (popped words q) ≡ length words
length_popped words q = simp length-set

-- the recorded sizes and the marks of channel c
pub record Details (s : Settings) (c : ℕ) (words : List ℕ) (size : ℕ → ℕ) (mark : ℕ → ℕ → ℕ) : Type 0 where
  pub sizes : (g : ℕ) → g < segments s → get_or words (size_at s c g) 0 ≡ size g
  pub marks : (g i : ℕ) → g < segments s → i < samples s → get_or words (mark_at s c g i) 0 ≡ mark g i

pub details_same : (s : Settings) (c : ℕ) (words others : List ℕ) (size : ℕ → ℕ) (mark : ℕ → ℕ → ℕ) → ((g : ℕ) → g < segments s → SameAt others words (size_at s c g)) → ((g i : ℕ) → g < segments s → i < samples s → SameAt others words (mark_at s c g i)) → Details s c words size mark → Details s c others size mark
details_same s c words others size mark e f d =
    record { sizes = λ g l. e g l ∙ d.sizes g l; marks = λ g i l k. f g i l k ∙ d.marks g i l k }

-- the same details, said otherwise
pub details_as : (s : Settings) (c : ℕ) (words : List ℕ) (size size' : ℕ → ℕ) (mark mark' : ℕ → ℕ → ℕ) → ((g : ℕ) → g < segments s → size' g ≡ size g) → ((g i : ℕ) → g < segments s → i < samples s → mark' g i ≡ mark g i) → Details s c words size mark → Details s c words size' mark'
details_as s c words size size' mark mark' e f d =
    record { sizes = λ g l. d.sizes g l ∙ sym (e g l); marks = λ g i l k. d.marks g i l k ∙ sym (f g i l k) }

pub details_size : (s : Settings) (c : ℕ) (words : List ℕ) (size size' : ℕ → ℕ) (mark : ℕ → ℕ → ℕ) (g n : ℕ) → c < channels s → needed s ≤ length words → g < segments s → size' g ≡ n → ((h : ℕ) → h ≢ g → size' h ≡ size h) → Details s c words size mark → Details s c (set words (size_at s c g) n) size' mark
details_size s c words size size' mark g n l room k e f d =
    let low : size_at s c g < length words = omega (arith, details_inside s c g l k) in
    record {
      sizes = λ h m.
          ⊎_elim
          (λ (q : h ≡ g). ap (λ (x : ℕ). get_or (set words (size_at s c g) n) (size_at s c x) 0) q ∙ (get_or-set_same words (size_at s c g) n 0 low ∙ (sym e ∙ ap size' (sym q))))
          (λ (q : h ≢ g). get_or-set_other words (size_at s c g) (size_at s c h) n 0 (λ r. q (sizes_differ s c c h g m k r).1) ∙ (d.sizes h m ∙ sym (f h q)))
          (cases_eq h g);
      marks = λ h i m o. get_or-set_other words (size_at s c g) (mark_at s c h i) n 0 (λ r. sizes_unmarked s c c g h i k m o (sym r)) ∙ d.marks h i m o;
    }

pub details_mark : (s : Settings) (c : ℕ) (words : List ℕ) (size : ℕ → ℕ) (mark mark' : ℕ → ℕ → ℕ) (g i n : ℕ) → c < channels s → needed s ≤ length words → g < segments s → i < samples s → mark' g i ≡ n → ((h j : ℕ) → h < segments s → j < samples s → (h ≡ g → j ≡ i → ⊥) → mark' h j ≡ mark h j) → Details s c words size mark → Details s c (set words (mark_at s c g i) n) size mark'
details_mark s c words size mark mark' g i n l room k k' e f d =
    let low : mark_at s c g i < length words = omega (arith, details_inside s c g l k) in
    record {
      sizes = λ h m. get_or-set_other words (mark_at s c g i) (size_at s c h) n 0 (sizes_unmarked s c c h g i m k k') ∙ d.sizes h m;
      marks = λ h j m o.
          ⊎_elim
          (λ (q : mark_at s c h j ≡ mark_at s c g i).
          let same = marks_differ s c c h g j i m k o k' q in
          ap (λ (p : ℕ). get_or (set words (mark_at s c g i) n) p 0) q
          ∙ (get_or-set_same words (mark_at s c g i) n 0 low ∙ (sym e ∙ (ap (λ (x : ℕ). mark' x i) (sym same.1) ∙ ap (mark' h) (sym same.2)))))
          (λ (q : mark_at s c h j ≢ mark_at s c g i).
          get_or-set_other words (mark_at s c g i) (mark_at s c h j) n 0 q
          ∙ (d.marks h j m o ∙ sym (f h j m o (λ a b. q (ap (λ (x : ℕ). mark_at s c x j) a ∙ ap (λ (x : ℕ). mark_at s c g x) b)))))
          (cases_eq (mark_at s c h j) (mark_at s c g i));
    }

-- what the words say of channel c: its two queues, its sizes and its marks
pub record View (s : Settings) (c : ℕ) (words w r : List ℕ) (size : ℕ → ℕ) (mark : ℕ → ℕ → ℕ) : Type 0 where
  pub sub : QueueIs words (submission_of s c) w
  pub comp : QueueIs words (completion_of s c) r
  pub details : Details s c words size mark

-- the same view, said otherwise
pub view_as : (s : Settings) (c : ℕ) (words w w' r r' : List ℕ) (size size' : ℕ → ℕ) (mark mark' : ℕ → ℕ → ℕ) → w ≡ w' → r ≡ r' → ((g : ℕ) → g < segments s → size' g ≡ size g) → ((g i : ℕ) → g < segments s → i < samples s → mark' g i ≡ mark g i) → View s c words w r size mark → View s c words w' r' size' mark'
view_as s c words w w' r r' size size' mark mark' e f h k v =
    record {
      sub = subst (QueueIs words (submission_of s c)) e v.sub;
      comp = subst (QueueIs words (completion_of s c)) f v.comp;
      details = details_as s c words size size' mark mark' h k v.details;
    }

-- what the words of a channel with sound queues say
pub view_of : (s : Settings) (c : ℕ) (words : List ℕ) → queue_sound words (submission_of s c) ≡ true → queue_sound words (completion_of s c) ≡ true → View s c words (entries words (submission_of s c)) (entries words (completion_of s c)) (λ g. get_or words (size_at s c g) 0) (λ g i. get_or words (mark_at s c g i) 0)
view_of s c words e f =
    record {
      sub = record { sound = e; are = refl };
      comp = record { sound = f; are = refl };
      details = record { sizes = λ g l. refl; marks = λ g i l k. refl };
    }

sides_differ : submission ≢ completion
sides_differ e = let z : ◌≡◌ {A = ℕ} 0 1 = cc in omega arith

module _ (s : Settings) (c : ℕ) (lim : Limits s) (l : c < channels s) where
  -- words that agree at the places of the channel
  pub view_same : (words others w r : List ℕ) (size : ℕ → ℕ) (mark : ℕ → ℕ → ℕ) → ((p : ℕ) → Mine s c p → SameAt others words p) → View s c words w r size mark → View s c others w r size mark
  view_same words others w r size mark same v =
      record {
        sub = queue_same words others (submission_of s c) w (queues_placed s lim submission c l) (λ p b. same p (mine_queue s submission c p b)) v.sub;
        comp = queue_same words others (completion_of s c) r (queues_placed s lim completion c l) (λ p b. same p (mine_queue s completion c p b)) v.comp;
        details = details_same s c words others size mark (λ g k. same (size_at s c g) (mine_size s c g k)) (λ g i k m. same (mark_at s c g i) (mine_mark s c g i k m)) v.details;
      }

  module _ (words : List ℕ) (room : needed s ≤ length words) where
    pub within : (x : Side) → Within words (queue_of s x c)
    within submission =
        record { placed = queues_placed s lim submission c l; inside = omega (arith, channels_first s c c 0 l, details_inside s c 0 l (omega arith)) }
    within completion =
        record { placed = queues_placed s lim completion c l; inside = omega (arith, channels_first s c c 0 l, details_inside s c 0 l (omega arith)) }

    pub within_sub : Within words (submission_of s c)
    within_sub = within submission

    pub within_comp : Within words (completion_of s c)
    within_comp = within completion

    module _ (w r : List ℕ) (size : ℕ → ℕ) (mark : ℕ → ℕ → ℕ) where
      -- a change of one queue leaves the other queue and the details
      module _ (x : Side) (others : List ℕ) (only : (p : ℕ) → (Belongs (queue_of s x c) p → ⊥) → SameAt others words p) where
        other_queue : (y : Side) → x ≢ y → (xs : List ℕ) → QueueIs words (queue_of s y c) xs → QueueIs others (queue_of s y c) xs
        other_queue y ne xs o =
            queue_same words others (queue_of s y c) xs (queues_placed s lim y c l) (λ p b. only p (λ a. queues_apart s x y c c p (inl ne) a b)) o

        details_stay : Details s c words size mark → Details s c others size mark
        details_stay d =
            let rest = stay s lim words others x c l only in
            details_same s c words others size mark (λ g k. rest.sizes_stay c g) (λ g i k m. rest.marks_stay c g i) d

      pub push_sub : (v : ℕ) → length w < buffer s → View s c words w r size mark → View s c (pushed words (submission_of s c) v) (w ++ v ∷ []) r size mark
      push_sub v k o =
          let only = push_only words (submission_of s c) (queues_placed s lim submission c l) v in
          record {
            sub = queue_pushed words (submission_of s c) w v within_sub k o.sub;
            comp = other_queue submission (pushed words (submission_of s c) v) only completion sides_differ r o.comp;
            details = details_stay submission (pushed words (submission_of s c) v) only o.details;
          }

      pub push_comp : (v : ℕ) → length r < completions s → View s c words w r size mark → View s c (pushed words (completion_of s c) v) w (r ++ v ∷ []) size mark
      push_comp v k o =
          let only = push_only words (completion_of s c) (queues_placed s lim completion c l) v in
          record {
            sub = other_queue completion (pushed words (completion_of s c) v) only submission (λ e. sides_differ (sym e)) w o.sub;
            comp = queue_pushed words (completion_of s c) r v within_comp k o.comp;
            details = details_stay completion (pushed words (completion_of s c) v) only o.details;
          }

      pub pop_sub : (x : ℕ) → View s c words (x ∷ w) r size mark → View s c (popped words (submission_of s c)) w r size mark
      pop_sub x o =
          let only = pop_only words (submission_of s c) (queues_placed s lim submission c l) in
          record {
            sub = queue_popped words (submission_of s c) x w within_sub o.sub;
            comp = other_queue submission (popped words (submission_of s c)) only completion sides_differ r o.comp;
            details = details_stay submission (popped words (submission_of s c)) only o.details;
          }

      pub pop_comp : (x : ℕ) → View s c words w (x ∷ r) size mark → View s c (popped words (completion_of s c)) w r size mark
      pop_comp x o =
          let only = pop_only words (completion_of s c) (queues_placed s lim completion c l) in
          record {
            sub = other_queue completion (popped words (completion_of s c)) only submission (λ e. sides_differ (sym e)) w o.sub;
            comp = queue_popped words (completion_of s c) x r within_comp o.comp;
            details = details_stay completion (popped words (completion_of s c)) only o.details;
          }

      -- a write behind the channel's own words leaves both queues
      queue_set : (side : Side) (p x : ℕ) (xs : List ℕ) → channel_at s c + stride s ≤ p → QueueIs words (queue_of s side c) xs → QueueIs (set words p x) (queue_of s side c) xs
      queue_set side p x xs h o =
          queue_same words (set words p x) (queue_of s side c) xs (queues_placed s lim side c l)
          (λ q b. get_or-set_other words p q x 0 (λ e. omega (arith, queue_inside s side c q b))) o

      pub write_size : (size' : ℕ → ℕ) (g n : ℕ) → g < segments s → size' g ≡ n → ((h : ℕ) → h ≢ g → size' h ≡ size h) → View s c words w r size mark → View s c (set words (size_at s c g) n) w r size' mark
      write_size size' g n k e f o =
          let high = channels_first s c c g l in
          record {
            sub = queue_set submission (size_at s c g) n w high o.sub;
            comp = queue_set completion (size_at s c g) n r high o.comp;
            details = details_size s c words size size' mark g n l room k e f o.details;
          }

      pub write_mark : (mark' : ℕ → ℕ → ℕ) (g i n : ℕ) → g < segments s → i < samples s → mark' g i ≡ n → ((h j : ℕ) → h < segments s → j < samples s → (h ≡ g → j ≡ i → ⊥) → mark' h j ≡ mark h j) → View s c words w r size mark → View s c (set words (mark_at s c g i) n) w r size mark'
      write_mark mark' g i n k k' e f o =
          let high : channel_at s c + stride s ≤ mark_at s c g i = omega (arith, channels_first s c c g l) in
          record {
            sub = queue_set submission (mark_at s c g i) n w high o.sub;
            comp = queue_set completion (mark_at s c g i) n r high o.comp;
            details = details_mark s c words size mark mark' g i n l room k k' e f o.details;
          }
