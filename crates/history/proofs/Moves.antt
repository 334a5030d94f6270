-- The books after a call, by its answer.
use Rattle.std.proofs.Common.{◌≡◌, ℕ, ◌+◌, cond, eqb, ◌≢◌, List, [], ◌∷◌, ◌++◌, refl}
use Rattle.std.proofs.lemmas.Bool.{eq-eqb, ne_eqb, cond_both}
use Rattle.std.proofs.lemmas.List.{append-nil}
use Rattle.zero_copy_connection.specs.Answers.{Answer, refused, nothing, value}
use Rattle.channel_laws.specs.Calls.{Call, sends, receives, releases, reclaims, asks_data, asks_count, channel_of}
use Rattle.history.specs.Books.{Books, sized, has, without, minus, lacks, booked_by, booked_on}

-- what is missing where v should leave
abbrev pub missed : ℕ → List ℕ → List ℕ
missed v xs = cond (has v xs) [] (v ∷ [])

-- v joins the values that wait
abbrev pub joins : ℕ → ℕ → Books → Books
joins v n b =
    record {
      waiting = b.waiting ++ v ∷ [];
      on_loan = b.on_loan;
      returned = b.returned;
      received = b.received;
      accepted = b.accepted ++ v ∷ [];
      evicted = b.evicted;
      left = b.left;
      missing = b.missing;
      size = sized b.size v n;
      since = b.since + 1;
    }

-- e is evicted
abbrev pub evicts : ℕ → Books → Books
evicts e b =
    record {
      waiting = without e b.waiting;
      on_loan = b.on_loan;
      returned = b.returned;
      received = b.received;
      accepted = b.accepted;
      evicted = b.evicted ++ e ∷ [];
      left = b.left ++ e ∷ [];
      missing = b.missing ++ missed e b.waiting;
      size = b.size;
      since = b.since;
    }

-- v goes from waiting to on loan
abbrev pub lends : ℕ → Books → Books
lends v b =
    record {
      waiting = without v b.waiting;
      on_loan = b.on_loan ++ v ∷ [];
      returned = b.returned;
      received = b.received ++ v ∷ [];
      accepted = b.accepted;
      evicted = b.evicted;
      left = b.left ++ v ∷ [];
      missing = b.missing ++ missed v b.waiting;
      size = b.size;
      since = b.since;
    }

-- v goes from on loan to returned
abbrev pub gives_back : ℕ → Books → Books
gives_back v b =
    record {
      waiting = b.waiting;
      on_loan = without v b.on_loan;
      returned = b.returned ++ v ∷ [];
      received = b.received;
      accepted = b.accepted;
      evicted = b.evicted;
      left = b.left;
      missing = b.missing ++ missed v b.on_loan;
      size = b.size;
      since = b.since;
    }

-- nothing is to be reclaimed
abbrev pub drained : Books → Books
drained b =
    record {
      waiting = b.waiting;
      on_loan = b.on_loan;
      returned = b.returned;
      received = b.received;
      accepted = b.accepted;
      evicted = b.evicted;
      left = b.left;
      missing = b.missing;
      size = b.size;
      since = 0;
    }

-- v leaves
abbrev pub takes_back : ℕ → Books → Books
takes_back v b =
    record {
      waiting = b.waiting;
      on_loan = b.on_loan;
      returned = without v b.returned;
      received = b.received;
      accepted = b.accepted;
      evicted = b.evicted;
      left = b.left;
      missing = b.missing ++ missed v b.returned;
      size = b.size;
      since = b.since;
    }

abbrev moved : List ℕ → List ℕ → List ℕ → List ℕ → List ℕ → (ℕ → ℕ) → ℕ → Books → Books
moved s e r l k size since b =
    record {
      waiting = minus b.waiting (e ++ r) ++ s;
      on_loan = minus b.on_loan l ++ r;
      returned = minus b.returned k ++ l;
      accepted = b.accepted ++ s;
      evicted = b.evicted ++ e;
      received = b.received ++ r;
      left = b.left ++ (e ++ r);
      missing = b.missing ++ (lacks b.waiting (e ++ r) ++ (lacks b.on_loan l ++ lacks b.returned k));
      size = size;
      since = since;
    }

pub moved_none : (b : Books) → moved [] [] [] [] [] b.size b.since b ≡ b
moved_none b = simp append-nil

module _ (b : Books) (c : ℕ) where
  pub send_joins : (v n : ℕ) → booked_by (sends v n c) nothing b ≡ joins v n b
  send_joins v n = simp append-nil

  pub send_evicts : (v n e : ℕ) → booked_by (sends v n c) (value e) b ≡ joins v n (evicts e b)
  send_evicts v n e = simp append-nil

  pub receive_lends : (v : ℕ) → booked_by (receives c) (value v) b ≡ lends v b
  receive_lends v = simp append-nil

  pub release_returns : (v : ℕ) → booked_by (releases v c) nothing b ≡ gives_back v b
  release_returns v = simp append-nil

  pub reclaim_takes : (v : ℕ) → booked_by (reclaims c) (value v) b ≡ takes_back v b
  reclaim_takes v = simp append-nil

  pub reclaim_drains : booked_by (reclaims c) nothing b ≡ drained b
  reclaim_drains = simp append-nil

  pub nothing_received : booked_by (receives c) nothing b ≡ b
  nothing_received = moved_none b

-- a refusal moves nothing
pub refusal_moves : (x : Call) (n : ℕ) (b : Books) → booked_by x (refused n) b ≡ b
refusal_moves (sends v m c) n b = moved_none b
refusal_moves (receives c) n b = moved_none b
refusal_moves (releases v c) n b = moved_none b
refusal_moves (reclaims c) n b = moved_none b
refusal_moves (asks_data c) n b = moved_none b
refusal_moves (asks_count c) n b = moved_none b

-- nor does a call that asks
pub data_moves : (c : ℕ) (a : Answer) (b : Books) → booked_by (asks_data c) a b ≡ b
data_moves c a b = moved_none b

pub count_moves : (c : ℕ) (a : Answer) (b : Books) → booked_by (asks_count c) a b ≡ b
count_moves c a b = moved_none b

-- the books after a call on the channel itself, and on another
pub booked_own : (c : ℕ) (x : Call) (a : Answer) (b : Books) → channel_of x ≡ c → booked_on c x a b ≡ booked_by x a b
booked_own c x a b e = rw (eq-eqb (channel_of x) c e)

pub booked_other : (c : ℕ) (x : Call) (a : Answer) (b : Books) → channel_of x ≢ c → booked_on c x a b ≡ b
booked_other c x a b ne = rw (ne_eqb (channel_of x) c ne)

-- and after a refusal, wherever
pub booked_refusal : (c : ℕ) (x : Call) (n : ℕ) (b : Books) → booked_on c x (refused n) b ≡ b
booked_refusal c x n b = cond_both (eqb (channel_of x) c) (booked_by x (refused n) b) b (λ y. y ≡ b) (λ _. refusal_moves x n b) (λ _. refl)
