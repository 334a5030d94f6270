-- The places of different channels do not meet, and what a channel's writes leave.
use Rattle.std.proofs.Common.{◌≡◌, ℕ, ◌/◌, ◌%◌, ◌<◌, ◌≤◌, Bool, true, false, cond, not, eqb, ltb, ◌≢◌, List, get_or, set, Some, None, refl, ◌∙◌, inl, inr, ⊎_elim, arith}
use Rattle.std.proofs.lemmas.Bool.{cases_eq, cases_order, and_parts, ltb-true, eqb-true, not-true, eqb-false}
use Rattle.std.proofs.lemmas.List.{get_or-set_other, length-set}
use Rattle.shm_allocator.specs.Offsets.{segment_of, offset_of}
use Rattle.connection_words.specs.declared.settings.Settings.{Settings}
use Rattle.connection_words.specs.Settings.{Limits, segments, samples, channels}
use Rattle.connection_words.specs.Places.{channel_at, submission_of, completion_of, size_at, mark_at}
use Rattle.connection_words.specs.Queues.{Belongs, pushed, popped}
use Rattle.connection_words.specs.Chunks.{names, size_for, mark_of}
use Rattle.connection_words.specs.Laws.{Side, submission, completion, queue_of, SameAt}
use Rattle.connection_words.proofs.Apart.{header_first, channels_apart, channels_first, details_apart, queue_inside, queues_placed}
use Rattle.connection_words.proofs.Order.{push_only, pop_only}
use Rattle.zero_copy_connection.specs.declared.mark.Mark.{Mark}
use Rattle.zero_copy_connection.specs.Marks.{is_mark, mark_word, changed_at, mark_changed}
use Rattle.zero_copy_connection.specs.Sending.{recorded, queued, freed_words}
use Rattle.channel_laws.specs.Regions.{Mine, Only}

-- the places of a channel lie behind the header
pub mine_high : (s : Settings) (c p : ℕ) → c < channels s → Mine s c p → 8 ≤ p
mine_high s c p l (inl m) = omega (arith, header_first s c, m.0)
mine_high s c p l (inr m) = omega (arith, header_first s c, channels_first s c c m.0 l, m.2)

mine_less : (s : Settings) (c d p : ℕ) → c < d → d < channels s → Mine s c p → Mine s d p → ⊥
mine_less s c d p l k (inl m) (inl n) = omega (arith, channels_apart s c d l, m.1, n.0)
mine_less s c d p l k (inl m) (inr n) = omega (arith, channels_first s c d n.0 (omega arith), m.1, n.2)
mine_less s c d p l k (inr m) (inl n) = omega (arith, channels_first s d c m.0 k, m.2, n.1)
mine_less s c d p l k (inr m) (inr n) = omega (arith, details_apart s c d m.0 n.0 l m.1, m.3, n.2)

-- two channels have no place in common
pub mine_apart : (s : Settings) (c d p : ℕ) → c ≢ d → c < channels s → d < channels s → Mine s c p → Mine s d p → ⊥
mine_apart s c d p ne l k m n =
    ⊎_elim
    (λ (e : c ≡ d). ne e)
    (⊎_elim (λ (h : c < d). mine_less s c d p h k m n) (λ (h : d < c). mine_less s d c p h l n m))
    (cases_order c d)

-- the places of a queue, of a size and of a mark are their channel's
pub mine_queue : (s : Settings) (x : Side) (c p : ℕ) → Belongs (queue_of s x c) p → Mine s c p
mine_queue s x c p b = let h = queue_inside s x c p b in inl (omega (arith, h.0), h.1)

pub mine_state : (s : Settings) (c : ℕ) → Mine s c (channel_at s c)
mine_state s c = inl (omega arith, omega arith)

pub mine_size : (s : Settings) (c g : ℕ) → g < segments s → Mine s c (size_at s c g)
mine_size s c g l = inr (g, l, omega arith, omega arith)

pub mine_mark : (s : Settings) (c g i : ℕ) → g < segments s → i < samples s → Mine s c (mark_at s c g i)
mine_mark s c g i l k = inr (g, l, omega arith, omega arith)

pub only_none : (s : Settings) (d : ℕ) (words : List ℕ) → Only s d words words
only_none s d words = record { long = refl; elsewhere = λ p n. refl }

-- the header stays
pub only_header : (s : Settings) (d : ℕ) (words others : List ℕ) → d < channels s → Only s d words others → (p : ℕ) → p < 8 → SameAt others words p
only_header s d words others l o p h = o.elsewhere p (λ m. omega (arith, mine_high s d p l m))

-- so do the places of another channel
pub only_other : (s : Settings) (c d : ℕ) (words others : List ℕ) → c ≢ d → c < channels s → d < channels s → Only s d words others → (p : ℕ) → Mine s c p → SameAt others words p
only_other s c d words others ne l k o p m = o.elsewhere p (λ n. mine_apart s c d p ne l k m n)

-- what a value that names a chunk says
pub record Named (s : Settings) (size v : ℕ) : Type 0 where
  pub segment : segment_of v < segments s
  pub some : 0 < size
  pub aligned : offset_of v % size ≡ 0
  pub index : offset_of v / size < samples s

pub named : (s : Settings) (size v : ℕ) → names s size v ≡ true → Named s size v
named s size v e =
    let a = and_parts (ltb (segment_of v) (segments s)) _ e in
    let b = and_parts (not (eqb size 0)) _ a.1 in
    let c = and_parts (eqb (offset_of v % size) 0) _ b.1 in
    let ne : size ≢ 0 = eqb-false size 0 (not-true _ b.0) in
    record {
      segment = ltb-true _ _ a.0;
      some = omega arith;
      aligned = eqb-true _ _ c.0;
      index = ltb-true _ _ c.1;
    }

module _ (s : Settings) (d : ℕ) (words now : List ℕ) (o : Only s d words now) where
  pub only_set : (p x : ℕ) → Mine s d p → Only s d words (set now p x)
  only_set p x m =
      record {
        long = length-set now p x ∙ o.long;
        elsewhere = λ q n.
            ⊎_elim
            (λ (e : q ≡ p). absurd (n (rw e m)))
            (λ (ne : q ≢ p). get_or-set_other now p q x 0 ne ∙ o.elsewhere q n)
            (cases_eq q p);
      }

  pub only_push : (x : Side) (v : ℕ) → Limits s → d < channels s → Only s d words (pushed now (queue_of s x d) v)
  only_push x v lim l =
      record {
        long = simp length-set o.long;
        elsewhere = λ q n. push_only now (queue_of s x d) (queues_placed s lim x d l) v q (λ b. n (mine_queue s x d q b)) ∙ o.elsewhere q n;
      }

  pub only_pop : (x : Side) → Limits s → d < channels s → Only s d words (popped now (queue_of s x d))
  only_pop x lim l =
      record {
        long = simp length-set o.long;
        elsewhere = λ q n. pop_only now (queue_of s x d) (queues_placed s lim x d l) q (λ b. n (mine_queue s x d q b)) ∙ o.elsewhere q n;
      }

  pub only_push_sub : (v : ℕ) → Limits s → d < channels s → Only s d words (pushed now (submission_of s d) v)
  only_push_sub = only_push submission

  pub only_push_comp : (v : ℕ) → Limits s → d < channels s → Only s d words (pushed now (completion_of s d) v)
  only_push_comp = only_push completion

  pub only_pop_sub : Limits s → d < channels s → Only s d words (popped now (submission_of s d))
  only_pop_sub = only_pop submission

  pub only_pop_comp : Limits s → d < channels s → Only s d words (popped now (completion_of s d))
  only_pop_comp = only_pop completion

pub only_recorded : (s : Settings) (d : ℕ) (words now : List ℕ) → Only s d words now → (v size : ℕ) → segment_of v < segments s → offset_of v / size < samples s → Only s d words (recorded now s d v size)
only_recorded s d words now o v size l m =
    only_set s d words (set now (size_at s d (segment_of v)) size)
    (only_set s d words now o (size_at s d (segment_of v)) size (mine_size s d (segment_of v) l))
    (mark_of s d size v) 1
    (mine_mark s d (segment_of v) (offset_of v / size) l m)

pub only_queued : (s : Settings) (d : ℕ) (words now : List ℕ) → Only s d words now → (v : ℕ) (full : Bool) → Limits s → d < channels s → Only s d words (queued now s d v full)
only_queued s d words now o v true lim l = only_push s d words (popped now (submission_of s d)) (only_pop s d words now o submission lim l) submission v lim l
only_queued s d words now o v false lim l = only_push s d words now o submission v lim l

-- a mark that is changed, if it is, is one of the channel's
module _ (s : Settings) (d : ℕ) (words now : List ℕ) (o : Only s d words now) (v : ℕ) (from to : Mark) where
  changed_if : (place : ℕ) → Mine s d place → (b : Bool) → Only s d words (freed_words (cond b (Some (set now place (mark_word to))) None) now)
  changed_if place m true = only_set s d words now o place (mark_word to) m
  changed_if place m false = o

  changed_by : (size : ℕ) (b : Bool) → names s size v ≡ b → Only s d words (freed_words (changed_at now from to (cond b (Some (mark_of s d size v)) None)) now)
  changed_by size true e =
      let n = named s size v e in
      changed_if (mark_of s d size v) (mine_mark s d (segment_of v) (offset_of v / size) n.segment n.index) (is_mark from (get_or now (mark_of s d size v) 0))
  changed_by size false e = o

  pub only_changed : Only s d words (freed_words (mark_changed now s d v from to) now)
  only_changed = changed_by (size_for now s d v) (names s (size_for now s d v) v) refl

pub only_cond : (s : Settings) (d : ℕ) (words us vs : List ℕ) (b : Bool) → Only s d words us → Only s d words vs → Only s d words (cond b us vs)
only_cond s d words us vs true o p = o
only_cond s d words us vs false o p = p
