-- Views of a channel where a send records a chunk, and where the mark of a value that left is cleared.
use Rattle.std.proofs.Common.{◌≡◌, ℕ, ◌+◌, ◌/◌, ◌<◌, ◌≤◌, true, cond, ◌≢◌, List, length, get_or, set, Some, None, sym, ap, ◌∙◌, arith}
use Rattle.std.proofs.lemmas.Bool.{lt-ltb, eq-eqb, ne_eqb, cond-true}
use Rattle.std.proofs.lemmas.List.{length-set}
use Rattle.shm_allocator.specs.Offsets.{segment_of, offset_of}
use Rattle.connection_words.specs.declared.settings.Settings.{Settings}
use Rattle.connection_words.specs.Settings.{Limits, segments, samples, channels}
use Rattle.connection_words.specs.Places.{needed, size_at, mark_at}
use Rattle.connection_words.specs.Chunks.{names, mark_of, chunk_mark}
use Rattle.zero_copy_connection.specs.declared.mark.Mark.TheVariants.{Free, Used}
use Rattle.zero_copy_connection.specs.Marks.{changed_at, mark_changed}
use Rattle.zero_copy_connection.specs.Sending.{recorded}
use Rattle.channel_laws.proofs.Views.{View, Details, write_size, write_mark}
use Rattle.history.specs.Books.{Books, sized}
use Rattle.history.proofs.Moves.{joins}
use Rattle.history.proofs.Ledger.{Ledger, Fits, New, total, hit, hit_yes, hit_no, sized_other, sized_here, total_joins}

-- where the mark of a value stands
abbrev pub mark_for : Settings → ℕ → (ℕ → ℕ) → ℕ → ℕ
mark_for s c size x = mark_at s c (segment_of x) (offset_of x / size (segment_of x))

-- a value that lies at a used chunk
module _ (s : Settings) (c : ℕ) (us : List ℕ) (size : ℕ → ℕ) (mark : ℕ → ℕ → ℕ) (x : ℕ) (f : Fits s size x) (d : Details s c us size mark) where
  names_it : names s (size (segment_of x)) x ≡ true
  names_it =
      rw
      (lt-ltb _ _ f.segment, ne_eqb (size (segment_of x)) 0 (let h : 0 < size (segment_of x) = f.some in omega arith), eq-eqb _ _ f.aligned, lt-ltb _ _ f.index)

  marks_it : chunk_mark us s c x ≡ Some (mark_for s c size x)
  marks_it =
      ap (λ (n : ℕ). cond (names s n x) (Some (mark_of s c n x)) None) (d.sizes (segment_of x) f.segment)
      ∙ cond-true (names s (size (segment_of x)) x) (Some (mark_for s c size x)) None names_it

  pub used_mark : mark (segment_of x) (offset_of x / size (segment_of x)) ≢ 0 → mark_changed us s c x Used Free ≡ Some (set us (mark_for s c size x) 0)
  used_mark m =
      ap (changed_at us Used Free) marks_it
      ∙ rw (ne_eqb (get_or us (mark_for s c size x) 0) 0 (λ e. m (sym (d.marks _ _ f.segment f.index) ∙ e)))

-- its mark is cleared
pub struck : (s : Settings) (c : ℕ) (us w r : List ℕ) (size : ℕ → ℕ) (mark after : ℕ → ℕ → ℕ) (x : ℕ) → Limits s → c < channels s → needed s ≤ length us → Fits s size x → ((h j : ℕ) → h < segments s → j < samples s → mark h j ≤ 1) → ((h j : ℕ) → h < segments s → j < samples s → mark h j ≡ hit size h j x + after h j) → View s c us w r size mark → (mark_changed us s c x Used Free ≡ Some (set us (mark_for s c size x) 0)) × View s c (set us (mark_for s c size x) 0) w r size after
struck s c us w r size mark after x lim l long f few sum v =
    let here : mark (segment_of x) (offset_of x / size (segment_of x)) ≡ hit size (segment_of x) (offset_of x / size (segment_of x)) x + after (segment_of x) (offset_of x / size (segment_of x)) = sum _ _ f.segment f.index in
    let one : hit size (segment_of x) (offset_of x / size (segment_of x)) x ≡ 1 = hit_yes size x in
    let most : mark (segment_of x) (offset_of x / size (segment_of x)) ≤ 1 = few _ _ f.segment f.index in (
      used_mark s c us size mark x f v.details (omega arith),
      write_mark s c lim l us long w r size mark after (segment_of x) (offset_of x / size (segment_of x)) 0 f.segment f.index (omega arith)
          (λ h j p q ne. omega (arith, hit_no size h j x ne, sum h j p q))
          v,
    )

-- a chunk is recorded
pub recorded_view : (s : Settings) (c : ℕ) (us w r : List ℕ) (b : Books) (v n : ℕ) → Limits s → c < channels s → needed s ≤ length us → Ledger s b → New s b v n → View s c us w r b.size (total b) → View s c (recorded us s c v n) w r (sized b.size v n) (total (joins v n b))
recorded_view s c us w r b v n lim l long o new view =
    let e : sized b.size v n (segment_of v) ≡ n = sized_here b.size v n new.known in
    let longer : needed s ≤ length (set us (size_at s c (segment_of v)) n) = simp length-set long in
    let one : hit (sized b.size v n) (segment_of v) (offset_of v / n) v ≡ 1 = ap (λ (m : ℕ). hit (sized b.size v n) (segment_of v) (offset_of v / m) v) (sym e) ∙ hit_yes (sized b.size v n) v in
    write_mark s c lim l (set us (size_at s c (segment_of v)) n) longer w r (sized b.size v n) (total b) (total (joins v n b)) (segment_of v) (offset_of v / n) 1 new.segment new.index
    (omega (arith, total_joins s b v n o (segment_of v) (offset_of v / n), new.free))
    (λ h j p q ne. omega (arith, total_joins s b v n o h j, hit_no (sized b.size v n) h j v (λ y z. ne y (z ∙ ap (λ (m : ℕ). offset_of v / m) e))))
    (write_size s c lim l us long w r b.size (total b) (sized b.size v n) (segment_of v) n new.segment e (λ h ne. sized_other b.size v n h ne) view)
