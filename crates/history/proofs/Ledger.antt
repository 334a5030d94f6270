-- The values that the books of a channel hold, and how often each chunk is held.
use Rattle.std.proofs.Common.{◌≡◌, ℕ, ◌+◌, ◌/◌, ◌%◌, ◌<◌, ◌≤◌, Bool, true, false, cond, ◌&&◌, eqb, ◌≢◌, ◌⊎◌, List, [], ◌∷◌, ◌++◌, length, sym, refl, ap, ◌∙◌, inl, inr, ⊎_elim, arith}
use Rattle.std.specs.List.{AllByRecursion}
use Rattle.std.proofs.lemmas.Bool.Decides.{nat_tests}
use Rattle.std.proofs.lemmas.Bool.{cases_eq, cases_Bool, eqb-true, eq-eqb, ne_eqb, true≢false}
use Rattle.std.proofs.ByRecursion.{All-push, All-weaker}
use Rattle.std.proofs.lemmas.List.{append_assoc, length_push}
use Rattle.connection_words.specs.declared.settings.Settings.{Settings}
use Rattle.connection_words.specs.Settings.{buffer, borrowed, segments, samples}
use Rattle.shm_allocator.specs.Offsets.{segment_of, offset_of}
use Rattle.history.specs.Books.{Books, sized, has, without}
use Rattle.history.proofs.Moves.{missed, joins, evicts, lends, gives_back, takes_back, drained}
use Rattle.history.specs.Guarantee.{LeavesOut, done, keep, skip}

-- v's chunk is (g, i)
abbrev pub is_chunk : (ℕ → ℕ) → ℕ → ℕ → ℕ → Bool
is_chunk size g i v = eqb (segment_of v) g && eqb (offset_of v / size (segment_of v)) i

abbrev pub hit : (ℕ → ℕ) → ℕ → ℕ → ℕ → ℕ
hit size g i v = cond (is_chunk size g i v) 1 0

-- how many values have the chunk (g, i)
abbrev pub tally : (ℕ → ℕ) → ℕ → ℕ → List ℕ → ℕ
tally size g i [] = 0
tally size g i (v ∷ vs) = hit size g i v + tally size g i vs

-- how many held values have it
abbrev pub total : Books → ℕ → ℕ → ℕ
total b g i = tally b.size g i b.waiting + (tally b.size g i b.on_loan + tally b.size g i b.returned)

-- a value lies at a chunk
pub record Fits (s : Settings) (size : ℕ → ℕ) (v : ℕ) : Type 0 where
  pub segment : segment_of v < segments s
  pub some : 0 < size (segment_of v)
  pub aligned : offset_of v % size (segment_of v) ≡ 0
  pub index : offset_of v / size (segment_of v) < samples s

-- what holds of the books themselves: no chunk is held twice, each held value lies at a chunk, and as many values are held
-- as the settings allow and sends were accepted since a reclaim answered nothing
pub record Ledger (s : Settings) (b : Books) : Type 0 where
  pub few : (g i : ℕ) → g < segments s → i < samples s → total b g i ≤ 1
  pub waits : AllByRecursion (Fits s b.size) b.waiting
  pub lent : AllByRecursion (Fits s b.size) b.on_loan
  pub back : AllByRecursion (Fits s b.size) b.returned
  pub loans : length b.on_loan ≤ borrowed s
  pub whole : b.missing ≡ []
  pub order : b.accepted ≡ b.left ++ b.waiting
  pub split : LeavesOut b.left b.evicted b.received
  pub pace : length b.waiting + (length b.on_loan + length b.returned) ≤ buffer s + borrowed s + b.since

-- lists with some left out
pub leaves_keep : (x : ℕ) {xs ys zs : List ℕ} → LeavesOut xs ys zs → LeavesOut (xs ++ x ∷ []) ys (zs ++ x ∷ [])
leaves_keep x done = keep done
leaves_keep x (keep h) = keep (leaves_keep x h)
leaves_keep x (skip h) = skip (leaves_keep x h)

pub leaves_skip : (x : ℕ) {xs ys zs : List ℕ} → LeavesOut xs ys zs → LeavesOut (xs ++ x ∷ []) (ys ++ x ∷ []) zs
leaves_skip x done = skip done
leaves_skip x (keep h) = keep (leaves_skip x h)
leaves_skip x (skip h) = skip (leaves_skip x h)

leaves_none : (xs : List ℕ) → LeavesOut xs [] xs
leaves_none [] = done
leaves_none (x ∷ xs) = keep (leaves_none xs)

pub leaves_rest : {xs ys zs : List ℕ} → (us : List ℕ) → LeavesOut xs ys zs → LeavesOut (xs ++ us) ys (zs ++ us)
leaves_rest us done = leaves_none us
leaves_rest us (keep h) = keep (leaves_rest us h)
leaves_rest us (skip h) = skip (leaves_rest us h)

-- the oldest of a list leaves it
pub without_first : (x : ℕ) (xs : List ℕ) → without x (x ∷ xs) ≡ xs
without_first x xs = rw (eq-eqb x x refl)

pub lacks_first : (x : ℕ) (xs : List ℕ) → missed x (x ∷ xs) ≡ []
lacks_first x xs = rw (eq-eqb x x refl)

pub tally_push : (size : ℕ → ℕ) (g i : ℕ) (xs : List ℕ) (v : ℕ) → tally size g i (xs ++ v ∷ []) ≡ tally size g i xs + hit size g i v
tally_push size g i [] v = omega arith
tally_push size g i (x ∷ xs) v = omega (arith, tally_push size g i xs v)

-- a value leaves a list that has it
module _ (v : ℕ) where
  pub tally_without : (size : ℕ → ℕ) (g i : ℕ) (xs : List ℕ) → has v xs ≡ true → tally size g i xs ≡ hit size g i v + tally size g i (without v xs)
  tally_without size g i [] h = absurd (true≢false (sym h))
  tally_without size g i (x ∷ xs) h =
      ⊎_elim
      (λ (e : eqb v x ≡ true). let f : v ≡ x = eqb-true v x e in rw (e, f) refl)
      (λ (e : eqb v x ≡ false). rw e (omega (arith, tally_without size g i xs (rw e at h))))
      (cases_Bool (eqb v x))

  pub length_without : (xs : List ℕ) → has v xs ≡ true → length xs ≡ 1 + length (without v xs)
  length_without [] h = absurd (true≢false (sym h))
  length_without (x ∷ xs) h =
      ⊎_elim
      (λ (e : eqb v x ≡ true). rw e (omega arith))
      (λ (e : eqb v x ≡ false). rw e (omega (arith, length_without xs (rw e at h))))
      (cases_Bool (eqb v x))

  pub all_without : (P : ℕ → Type 0) (xs : List ℕ) → has v xs ≡ true → AllByRecursion P xs → P v × AllByRecursion P (without v xs)
  all_without P [] h a = absurd (true≢false (sym h))
  all_without P (x ∷ xs) h a =
      ⊎_elim
      (λ (e : eqb v x ≡ true). let f : v ≡ x = eqb-true v x e in rw (e, f) a)
      (λ (e : eqb v x ≡ false). let r : P v × AllByRecursion P (without v xs) = all_without P xs (rw e at h) a.1 in rw e (r.0, (a.0, r.1)))
      (cases_Bool (eqb v x))

-- a size that is recorded stays
pub sized_same : (size : ℕ → ℕ) (v n h : ℕ) → 0 < size h → sized size v n h ≡ size h
sized_same size v n h k = grind (arith, nat_tests)

pub sized_other : (size : ℕ → ℕ) (v n h : ℕ) → h ≢ segment_of v → sized size v n h ≡ size h
sized_other size v n h k = grind (arith, nat_tests)

pub sized_here : (size : ℕ → ℕ) (v n : ℕ) → (size (segment_of v) ≡ 0) ⊎ (size (segment_of v) ≡ n) → sized size v n (segment_of v) ≡ n
sized_here size v n h = grind (arith, nat_tests)

module _ (s : Settings) (size : ℕ → ℕ) (v n : ℕ) where
  pub fits_sized : (x : ℕ) → Fits s size x → Fits s (sized size v n) x
  fits_sized x f =
      let e : sized size v n (segment_of x) ≡ size (segment_of x) = sized_same size v n (segment_of x) f.some in
      record { segment = f.segment; some = rw e f.some; aligned = rw e f.aligned; index = rw e f.index }

  pub tally_sized : (g i : ℕ) (xs : List ℕ) → AllByRecursion (Fits s size) xs → tally (sized size v n) g i xs ≡ tally size g i xs
  tally_sized g i [] a = refl
  tally_sized g i (x ∷ xs) a =
      let e : sized size v n (segment_of x) ≡ size (segment_of x) = sized_same size v n (segment_of x) a.0.some in
      rw (e, tally_sized g i xs a.1) refl

-- a value's own chunk, and any other
pub hit_yes : (size : ℕ → ℕ) (v : ℕ) → hit size (segment_of v) (offset_of v / size (segment_of v)) v ≡ 1
hit_yes size v = rw (eq-eqb (segment_of v) (segment_of v) refl, eq-eqb (offset_of v / size (segment_of v)) (offset_of v / size (segment_of v)) refl) refl

pub hit_cases : (size : ℕ → ℕ) (g i v : ℕ) → ((g ≡ segment_of v) × (i ≡ offset_of v / size (segment_of v))) ⊎ (hit size g i v ≡ 0)
hit_cases size g i v =
    ⊎_elim
    (λ (e : segment_of v ≡ g).
    ⊎_elim
    (λ (f : offset_of v / size (segment_of v) ≡ i). inl (sym e, sym f))
    (λ (f : offset_of v / size (segment_of v) ≢ i). inr (rw (eq-eqb (segment_of v) g e, ne_eqb (offset_of v / size (segment_of v)) i f) refl))
    (cases_eq (offset_of v / size (segment_of v)) i))
    (λ (e : segment_of v ≢ g). inr (rw (ne_eqb (segment_of v) g e) refl))
    (cases_eq (segment_of v) g)

pub hit_no : (size : ℕ → ℕ) (g i v : ℕ) → (g ≡ segment_of v → i ≡ offset_of v / size (segment_of v) → ⊥) → hit size g i v ≡ 0
hit_no size g i v n = ⊎_elim (λ h. absurd (n h.0 h.1)) (λ h. h) (hit_cases size g i v)

-- a value that a send brings
pub record New (s : Settings) (b : Books) (v n : ℕ) : Type 0 where
  pub segment : segment_of v < segments s
  pub some : 0 < n
  pub known : (b.size (segment_of v) ≡ 0) ⊎ (b.size (segment_of v) ≡ n)
  pub aligned : offset_of v % n ≡ 0
  pub index : offset_of v / n < samples s
  pub free : total b (segment_of v) (offset_of v / n) ≡ 0

module _ (s : Settings) (b : Books) (v n : ℕ) (o : Ledger s b) where
  pub total_joins : (g i : ℕ) → total (joins v n b) g i ≡ total b g i + hit (sized b.size v n) g i v
  total_joins g i =
      omega (arith, tally_push (sized b.size v n) g i b.waiting v, tally_sized s b.size v n g i b.waiting o.waits, tally_sized s b.size v n g i b.on_loan o.lent, tally_sized s b.size v n g i b.returned o.back)

  pub fits_new : New s b v n → Fits s (sized b.size v n) v
  fits_new k =
      let e : sized b.size v n (segment_of v) ≡ n = sized_here b.size v n k.known in
      record { segment = k.segment; some = rw e k.some; aligned = rw e k.aligned; index = rw e k.index }

  pub ledger_joins : New s b v n → Ledger s (joins v n b)
  ledger_joins k =
      let e : sized b.size v n (segment_of v) ≡ n = sized_here b.size v n k.known in
      let more : (xs : List ℕ) → AllByRecursion (Fits s b.size) xs → AllByRecursion (Fits s (sized b.size v n)) xs = All-weaker (Fits s b.size) (Fits s (sized b.size v n)) (fits_sized s b.size v n) in
      record {
        few = λ g i l m.
            ⊎_elim
            (λ (h : (g ≡ segment_of v) × (i ≡ offset_of v / sized b.size v n (segment_of v))).
            let f : i ≡ offset_of v / n = h.1 ∙ ap (λ (x : ℕ). offset_of v / x) e in
            let z : total b g i ≡ 0 = rw (h.0, f) k.free in
            let y : hit (sized b.size v n) g i v ≤ 1 = grind (arith, nat_tests) in
            omega (arith, total_joins g i))
            (λ (h : hit (sized b.size v n) g i v ≡ 0). omega (arith, total_joins g i, o.few g i l m))
            (hit_cases (sized b.size v n) g i v);
        waits = All-push (Fits s (sized b.size v n)) b.waiting v (more b.waiting o.waits) (fits_new k);
        lent = more b.on_loan o.lent;
        back = more b.returned o.back;
        loans = o.loans;
        whole = o.whole;
        order = ap (λ (xs : List ℕ). xs ++ v ∷ []) o.order ∙ append_assoc b.left b.waiting (v ∷ []);
        split = o.split;
        pace = omega (arith, o.pace, length_push b.waiting v);
      }

module _ (s : Settings) (b : Books) (x : ℕ) (w : List ℕ) (o : Ledger s b) (is : b.waiting ≡ x ∷ w) where
  pub waits_left : without x b.waiting ≡ w
  waits_left = ap (without x) is ∙ without_first x w

  none_lacks : b.missing ++ missed x b.waiting ≡ []
  none_lacks = rw o.whole (ap (missed x) is ∙ lacks_first x w)

  pub all_waits : Fits s b.size x × AllByRecursion (Fits s b.size) w
  all_waits = rw is at o.waits

  pub total_evicts : (g i : ℕ) → total b g i ≡ hit b.size g i x + total (evicts x b) g i
  total_evicts g i = omega (arith, ap (tally b.size g i) is, ap (tally b.size g i) waits_left)

  gone_more : b.accepted ≡ (b.left ++ x ∷ []) ++ without x b.waiting
  gone_more = o.order ∙ rw (waits_left, is) (sym (append_assoc b.left (x ∷ []) w))

  pub ledger_evicts : Ledger s (evicts x b)
  ledger_evicts =
      record {
        few = λ g i l m. omega (arith, total_evicts g i, o.few g i l m);
        waits = rw waits_left all_waits.1;
        lent = o.lent;
        back = o.back;
        loans = o.loans;
        whole = none_lacks;
        order = gone_more;
        split = leaves_skip x o.split;
        pace = omega (arith, o.pace, ap length is, ap length waits_left);
      }

  pub total_receives : (g i : ℕ) → total (lends x b) g i ≡ total b g i
  total_receives g i = omega (arith, total_evicts g i, tally_push b.size g i b.on_loan x)

  pub ledger_receives : length b.on_loan < borrowed s → Ledger s (lends x b)
  ledger_receives k =
      record {
        few = λ g i l m. omega (arith, total_receives g i, o.few g i l m);
        waits = rw waits_left all_waits.1;
        lent = All-push (Fits s b.size) b.on_loan x o.lent all_waits.0;
        back = o.back;
        loans = omega (arith, length_push b.on_loan x);
        whole = none_lacks;
        order = gone_more;
        split = leaves_keep x o.split;
        pace = omega (arith, o.pace, ap length is, ap length waits_left, length_push b.on_loan x);
      }

module _ (s : Settings) (b : Books) (v : ℕ) (o : Ledger s b) (h : has v b.on_loan ≡ true) where
  pub total_releases : (g i : ℕ) → total (gives_back v b) g i ≡ total b g i
  total_releases g i = omega (arith, tally_without v b.size g i b.on_loan h, tally_push b.size g i b.returned v)

  pub ledger_releases : Ledger s (gives_back v b)
  ledger_releases =
      let a : Fits s b.size v × AllByRecursion (Fits s b.size) (without v b.on_loan) = all_without v (Fits s b.size) b.on_loan h o.lent in
      record {
        few = λ g i l m. omega (arith, total_releases g i, o.few g i l m);
        waits = o.waits;
        lent = a.1;
        back = All-push (Fits s b.size) b.returned v o.back a.0;
        loans = omega (arith, o.loans, length_without v b.on_loan h);
        whole = rw (o.whole, h) refl;
        order = o.order;
        split = o.split;
        pace = omega (arith, o.pace, length_without v b.on_loan h, length_push b.returned v);
      }

module _ (s : Settings) (b : Books) (o : Ledger s b) where
  pub ledger_reclaims_none : length b.waiting ≤ buffer s → b.returned ≡ [] → Ledger s (drained b)
  ledger_reclaims_none k e =
      record {
        few = o.few;
        waits = o.waits;
        lent = o.lent;
        back = o.back;
        loans = o.loans;
        whole = o.whole;
        order = o.order;
        split = o.split;
        pace = omega (arith, o.loans, ap length e);
      }

module _ (s : Settings) (b : Books) (x : ℕ) (r : List ℕ) (o : Ledger s b) (is : b.returned ≡ x ∷ r) where
  pub back_left : without x b.returned ≡ r
  back_left = ap (without x) is ∙ without_first x r

  pub all_back : Fits s b.size x × AllByRecursion (Fits s b.size) r
  all_back = rw is at o.back

  pub total_reclaims : (g i : ℕ) → total b g i ≡ hit b.size g i x + total (takes_back x b) g i
  total_reclaims g i = omega (arith, ap (tally b.size g i) is, ap (tally b.size g i) back_left)

  pub ledger_reclaims : Ledger s (takes_back x b)
  ledger_reclaims =
      record {
        few = λ g i l m. omega (arith, total_reclaims g i, o.few g i l m);
        waits = o.waits;
        lent = o.lent;
        back = rw back_left all_back.1;
        loans = o.loans;
        whole = rw o.whole (ap (missed x) is ∙ lacks_first x r);
        order = o.order;
        split = o.split;
        pace = omega (arith, o.pace, ap length is, ap length back_left);
      }
