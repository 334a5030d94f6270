-- A send keeps the invariant of its channel.
use Rattle.std.proofs.Common.{◌≡◌, ℕ, ◌/◌, ◌<◌, ◌≤◌, Bool, true, false, cond, List, [], ◌∷◌, ◌++◌, length, set, Some, None, Option, sym, refl, ap, ◌∙◌, subst, inl, inr, ⊎_elim, arith}
use Rattle.std.proofs.lemmas.Bool.{cases_lt, lt-leb, le-leb}
use Rattle.std.proofs.lemmas.List.{length-set}
use Rattle.shm_allocator.specs.Offsets.{segment_of, offset_of}
use Rattle.connection_words.specs.Settings.{buffer, channels}
use Rattle.connection_words.specs.Places.{needed, submission_of}
use Rattle.connection_words.specs.Queues.{popped}
use Rattle.connection_words.specs.Chunks.{size_for}
use Rattle.zero_copy_connection.specs.declared.mark.Mark.TheVariants.{Free, Used}
use Rattle.zero_copy_connection.specs.Answers.{nothing, unless, answer_unless}
use Rattle.zero_copy_connection.specs.Marks.{mark_changed}
use Rattle.zero_copy_connection.specs.Sending.{is_full, send_refusal, recorded, queued, sent_words, oldest, evicted, freed_answer, freed_words}
use Rattle.channel_laws.specs.Calls.{State, state_of, sends}
use Rattle.channel_laws.specs.Regions.{Only}
use Rattle.channel_laws.proofs.Regions.{only_none, only_recorded, only_queued, only_changed}
use Rattle.channel_laws.proofs.Views.{View, view_as, push_sub, pop_sub}
use Rattle.channel_laws.proofs.Sounds.{Sendable, sendable}
use Rattle.history.specs.Books.{Books, sized}
use Rattle.history.proofs.Moves.{joins, evicts, send_joins, send_evicts, refusal_moves}
use Rattle.history.proofs.Ledger.{Ledger, Fits, New, total, hit, sized_same, fits_sized, total_joins, ledger_joins, waits_left, all_waits, total_evicts, ledger_evicts}
use Rattle.history.proofs.Good.{Good, Step, st, own}
use Rattle.channel_laws.proofs.Refusals.{Plain}
use Rattle.history.proofs.Plain.{clean_refused, clean_nothing, clean_value}
use Rattle.history.proofs.Known.{lim, long, waiting_count, waiting_high, waiting_first}
use Rattle.history.proofs.Struck.{mark_for, struck, recorded_view}

module _ (t : State) (b : Books) (c : ℕ) (g : Good (st t) c t b) (l : c < channels (st t)) (v n : ℕ) where
  new_by : Sendable t.words (st t) c v n → New (st t) b v n
  new_by h =
      let size : size_for t.words (st t) c v ≡ b.size (segment_of v) = g.view.details.sizes (segment_of v) h.segment in
      record {
        segment = h.segment;
        some = h.some;
        known =
            ⊎_elim
            (λ (e : size_for t.words (st t) c v ≡ 0). inl (sym size ∙ e))
            (λ (e : size_for t.words (st t) c v ≡ n). inr (sym size ∙ e))
            h.known;
        aligned = h.aligned;
        index = h.index;
        free = sym (g.view.details.marks (segment_of v) (offset_of v / n) h.segment h.index) ∙ h.free;
      }

  module _ (new : New (st t) b v n) where
    abbrev noted : List ℕ
    noted = recorded t.words (st t) c v n

    noted_long : needed (st t) ≤ length noted
    noted_long = simp length-set (long t b c g)

    noted_view : View (st t) c noted b.waiting b.returned (sized b.size v n) (total (joins v n b))
    noted_view = recorded_view (st t) c t.words b.waiting b.returned b v n (lim t b c g) l (long t b c g) g.ledger new g.view

    only_sent : (full : Bool) → Only (st t) c t.words (queued noted (st t) c v full)
    only_sent full =
        only_queued (st t) c t.words noted (only_recorded (st t) c t.words t.words (only_none (st t) c t.words) v n new.segment new.index) v full (lim t b c g) l

    sent_room : length b.waiting < buffer (st t) → Good (st t) c (state_of t.condition (queued noted (st t) c v false) t.counts) (joins v n b)
    sent_room k =
        own (st t) c t b (joins v n b) (queued noted (st t) c v false) t.counts l g (only_sent false) g.many g.counter
        (push_sub (st t) c (lim t b c g) l noted noted_long b.waiting b.returned (sized b.size v n) (total (joins v n b)) v k noted_view)
        (ledger_joins (st t) b v n g.ledger new)

    -- the oldest, x, leaves a full queue
    module _ (x : ℕ) (w : List ℕ) (is : b.waiting ≡ x ∷ w) where
      abbrev over : List ℕ
      over = queued noted (st t) c v true

      over_long : needed (st t) ≤ length over
      over_long = simp length-set (long t b c g)

      over_view : View (st t) c over (w ++ v ∷ []) b.returned (sized b.size v n) (total (joins v n b))
      over_view =
          let size : ℕ → ℕ = sized b.size v n in
          let limits = lim t b c g in
          let k : length w < buffer (st t) = omega (arith, waiting_high t b c g, ap length is) in
          let gone_long : needed (st t) ≤ length (popped noted (submission_of (st t) c)) = simp length-set (long t b c g) in
          push_sub (st t) c limits l (popped noted (submission_of (st t) c)) gone_long w b.returned size (total (joins v n b)) v k
          (pop_sub (st t) c limits l noted noted_long w b.returned size (total (joins v n b)) x
          (view_as (st t) c noted b.waiting (x ∷ w) b.returned b.returned size size (total (joins v n b)) (total (joins v n b)) is refl (λ _ _. refl) (λ _ _ _ _. refl) noted_view))

      new_again : New (st t) (evicts x b) v n
      new_again =
          record {
            segment = new.segment;
            some = new.some;
            known = new.known;
            aligned = new.aligned;
            index = new.index;
            free = omega (arith, new.free, total_evicts (st t) b x w g.ledger is (segment_of v) (offset_of v / n));
          }

      -- y is the value that left, and changed the words with its mark cleared
      sent_over : (y : ℕ) → y ≡ x → (changed : Option (List ℕ)) → changed ≡ mark_changed over (st t) c x Used Free → Step (st t) c b (sends v n c) (freed_answer changed y 27) (state_of t.condition (freed_words changed over) t.counts)
      sent_over y e changed f =
          let size : ℕ → ℕ = sized b.size v n in
          let fits : Fits (st t) b.size x = (all_waits (st t) b x w g.ledger is).0 in
          let fewer : Ledger (st t) (evicts x b) = ledger_evicts (st t) b x w g.ledger is in
          let same : (h j : ℕ) → hit size h j x ≡ hit b.size h j x = λ h j. rw (sized_same b.size v n (segment_of x) fits.some) in
          let both =
          struck (st t) c over (w ++ v ∷ []) b.returned size (total (joins v n b)) (total (joins v n (evicts x b))) x (lim t b c g) l over_long
          (fits_sized (st t) b.size v n x fits)
          (ledger_joins (st t) b v n g.ledger new).few
          (λ h j _ _. omega (arith, total_joins (st t) b v n g.ledger h j, total_joins (st t) (evicts x b) v n fewer h j, total_evicts (st t) b x w g.ledger is h j, same h j))
          over_view in
          let now : List ℕ = set over (mark_for (st t) c size x) 0 in
          let only : Only (st t) c t.words (freed_words (mark_changed over (st t) c x Used Free) over) = only_changed (st t) c t.words over (only_sent true) x Used Free in
          let after : Good (st t) c (state_of t.condition now t.counts) (joins v n (evicts x b)) =
          own (st t) c t b (joins v n (evicts x b)) now t.counts l g
          (subst (λ (z : Option (List ℕ)). Only (st t) c t.words (freed_words z over)) both.0 only)
          g.many
          g.counter
          (view_as (st t) c now (w ++ v ∷ []) (joins v n (evicts x b)).waiting b.returned b.returned size size (total (joins v n (evicts x b))) (total (joins v n (evicts x b)))
          (ap (λ (z : List ℕ). z ++ v ∷ []) (sym (waits_left (st t) b x w g.ledger is)))
          refl
          (λ _ _. refl)
          (λ _ _ _ _. refl)
          both.1)
          (ledger_joins (st t) (evicts x b) v n fewer new_again) in
          let is-freed : changed ≡ Some now = f ∙ both.0 in
          rw (is-freed, e) (record { good = rw (send_evicts b c v n x) after; oldest = (w, is); unrefused = λ _. tt; clean = clean_value x })

    -- what a send that is not refused leaves and answers, by whether the queue is full
    abbrev Sent : Bool → Type 0
    Sent full =
        Step (st t) c b (sends v n c)
        (cond full (freed_answer (mark_changed (queued noted (st t) c v full) (st t) c (oldest t.words (st t) c) Used Free) (oldest t.words (st t) c) 27) nothing)
        (state_of t.condition (cond full (freed_words (mark_changed (queued noted (st t) c v full) (st t) c (oldest t.words (st t) c) Used Free) (queued noted (st t) c v full)) (queued noted (st t) c v full)) t.counts)

    joined : length b.waiting < buffer (st t) → Sent (is_full t.words (st t) c)
    joined k =
        let e : is_full t.words (st t) c ≡ false = lt-leb _ _ (omega (arith, waiting_count t b c g)) in
        rw e (record { good = rw (send_joins b c v n) (sent_room k); oldest = tt; unrefused = λ _. tt; clean = clean_nothing })

    sent_by_lem : (w : List ℕ) → b.waiting ≡ w → Sent (is_full t.words (st t) c)
    sent_by_lem [] is = joined (omega (arith, ap length is, lim t b c g))
    sent_by_lem (x ∷ w) is =
        ⊎_elim
        (λ (k : length b.waiting < buffer (st t)). joined k)
        (λ (k : buffer (st t) ≤ length b.waiting).
        let e : is_full t.words (st t) c ≡ true = le-leb _ _ (omega (arith, waiting_count t b c g)) in
        let f : oldest t.words (st t) c ≡ x = waiting_first t b c g l x w is in
        rw e
        (sent_over x w is (oldest t.words (st t) c) f (mark_changed (over x w is) (st t) c (oldest t.words (st t) c) Used Free) (ap (λ (z : ℕ). mark_changed (over x w is) (st t) c z Used Free) f)))
        (cases_lt (length b.waiting) (buffer (st t)))

  pub send_step : (o : Option ℕ) → send_refusal t.condition t.words c v n ≡ o → Plain o → Step (st t) c b (sends v n c) (answer_unless o (cond (is_full t.words (st t) c) (freed_answer (evicted t.words (st t) c v n) (oldest t.words (st t) c) 27) nothing)) (state_of t.condition (unless o t.words (cond (is_full t.words (st t) c) (freed_words (evicted t.words (st t) c v n) (sent_words t.words (st t) c v n)) (sent_words t.words (st t) c v n))) t.counts)
  send_step (Some k) h p = record { good = rw (refusal_moves (sends v n c) k b) g; oldest = tt; unrefused = λ _. tt; clean = clean_refused k p }
  send_step None h p = sent_by_lem (new_by (sendable t.condition t.words c v n h).2) b.waiting refl
