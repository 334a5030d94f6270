-- The examples, by computation.
use Rattle.std.proofs.Common.{◌≡◌, ℕ, zero, suc, ◌<◌, Bool, true, false, not, ◌&&◌, ◌||◌, eqb, List, [], ◌∷◌, sym, refl, arith}
use Rattle.std.proofs.lemmas.Bool.{and_parts, eqb-true, eq-eqb, true≢false}
use Rattle.connection_words.specs.Settings.{channels}
use Rattle.connection_words.specs.Places.{channel_at, detail_at, needed}
use Rattle.connection_ports.specs.declared.port.Port.TheVariants as port
use Rattle.connection_ports.specs.Creation.{whole}
use Rattle.zero_copy_connection.specs.Answers.{Answer}
use Rattle.zero_copy_connection.specs.Checks.{channel_refusal}
use Rattle.zero_copy_connection.specs.Sending.{chunk_refusal}
use Rattle.blocking_send.specs.Waits.{goes, ends}
use Rattle.channel_laws.specs.Calls.{Call, sends, receives, releases, reclaims, asks_data, asks_count, channel_of}
use Rattle.channel_laws.specs.Readings.{settings}
use Rattle.history.specs.Events.{Event, made, stepped, Runs}
use Rattle.history.specs.Books.{Books, unused, is_refused, if_sends, if_releases, has, booked_on, send_of, Along}
use Rattle.history.specs.Guarantee.{Accepts, Fresh, created, NamesLoan, Paced}
use Rattle.history.specs.Example.{small, blank, begin, open_state, closed_state, evicting, pending, refusing, ended, Met, GuaranteeMet}
use Rattle.history.proofs.Created.{fresh_created}

it_accepts : (overflow : Bool) → Accepts port.Receiver (small overflow) blank
unfolding needed
it_accepts overflow = refl

it_joins : (overflow : Bool) (state : ℕ) → Accepts port.Sender (small overflow) (created port.Receiver (small overflow) state blank)
unfolding whole channel_at needed
it_joins true state = refl
it_joins false state = refl

it_begins : (overflow : Bool) (state : ℕ) → Fresh (begin overflow state)
it_begins overflow state = fresh_created port.Receiver (small overflow) (small overflow) state 5 blank refl (it_accepts overflow) (it_joins overflow state)

it_has_two : (overflow : Bool) (state : ℕ) → channels (settings (begin overflow state)) ≡ 2
unfolding whole channel_at needed
it_has_two true state = refl
it_has_two false state = refl

evicting_runs : Runs (begin true open_state) evicting (ended (begin true open_state) evicting)
unfolding whole channel_at detail_at needed channel_refusal chunk_refusal
evicting_runs = (refl, (refl, (refl, (refl, (refl, (refl, (refl, (refl, (refl, (refl, (refl, (refl, (refl, (refl, (refl, (refl, (refl, (refl, (refl, (refl, (refl, (refl, (refl, refl)))))))))))))))))))))))

pending_runs : Runs (begin false open_state) pending (ended (begin false open_state) pending)
unfolding whole channel_at detail_at needed channel_refusal chunk_refusal
pending_runs = (refl, (refl, (refl, (refl, (refl, (refl, (refl, (refl, (refl, (refl, (refl, (refl, (refl, (refl, (refl, (refl, (refl, (refl, (refl, (refl, refl))))))))))))))))))))

refusing_runs : Runs (begin false closed_state) refusing (ended (begin false closed_state) refusing)
unfolding whole channel_at detail_at needed channel_refusal chunk_refusal
refusing_runs = (refl, (refl, refl))

-- a test of each event on channel c, and what it shows
abbrev tested_on : (Books → Call → Answer → Bool) → ℕ → Books → Call → Answer → Bool
tested_on f c b x a = not (eqb (channel_of x) c) || f b x a

abbrev tested : (Books → Call → Answer → Bool) → ℕ → Books → List Event → Bool
tested f c b [] = true
tested f c b (made x a ∷ es) = tested_on f c b x a && tested f c (booked_on c x a b) es
tested f c b (stepped w action (goes next) ∷ es) = tested f c b es
tested f c b (stepped w action (ends a) ∷ es) = tested_on f c b (send_of w) a && tested f c (booked_on c (send_of w) a b) es

either : (p q : Bool) → (not p || q) ≡ true → p ≡ true → q ≡ true
either true q h e = h
either false q h e = absurd (true≢false (sym e))

module _ (P : Books → Call → Answer → Type 0) (f : Books → Call → Answer → Bool) (h : (b : Books) (x : Call) (a : Answer) → f b x a ≡ true → P b x a) (c : ℕ) where
  on_tested : (b : Books) (x : Call) (a : Answer) → tested_on f c b x a ≡ true → channel_of x ≡ c → P b x a
  on_tested b x a e q = h b x a (either (eqb (channel_of x) c) (f b x a) e (eq-eqb (channel_of x) c q))

  along_tested : (b : Books) (es : List Event) → tested f c b es ≡ true → Along P c b es
  along_tested b [] e = tt
  along_tested b (made x a ∷ es) e =
      let both = and_parts (tested_on f c b x a) (tested f c (booked_on c x a b) es) e in
      (on_tested b x a both.0, along_tested (booked_on c x a b) es both.1)
  along_tested b (stepped w action (goes next) ∷ es) e = (tt, along_tested b es e)
  along_tested b (stepped w action (ends a) ∷ es) e =
      let both = and_parts (tested_on f c b (send_of w) a) (tested f c (booked_on c (send_of w) a b) es) e in
      (on_tested b (send_of w) a both.0, along_tested (booked_on c (send_of w) a b) es both.1)

abbrev names_loan : Books → Call → Answer → Bool
names_loan b x a = if_releases x (λ v. has v b.on_loan) true

names_shown : (b : Books) (x : Call) (a : Answer) → names_loan b x a ≡ true → NamesLoan b x a
names_shown b (sends v n c) a e = tt
names_shown b (receives c) a e = tt
names_shown b (releases v c) a e = e
names_shown b (reclaims c) a e = tt
names_shown b (asks_data c) a e = tt
names_shown b (asks_count c) a e = tt

abbrev is_paced : Books → Call → Answer → Bool
is_paced b x a = if_sends x (λ v n. is_refused a || eqb b.since 0) true

first_fails : (p q : Bool) → (p || q) ≡ true → p ≡ false → q ≡ true
first_fails true q h e = absurd (true≢false e)
first_fails false q h e = h

paced_shown : (b : Books) (x : Call) (a : Answer) → is_paced b x a ≡ true → Paced b x a
paced_shown b (sends v n c) a e = λ accepted. eqb-true b.since 0 (first_fails (is_refused a) (eqb b.since 0) e accepted)
paced_shown b (receives c) a e = tt
paced_shown b (releases v c) a e = tt
paced_shown b (reclaims c) a e = tt
paced_shown b (asks_data c) a e = tt
paced_shown b (asks_count c) a e = tt

-- a test on both channels
on_both : (f : ℕ → Bool) → f 0 ≡ true → f 1 ≡ true → (c : ℕ) → c < 2 → f c ≡ true
on_both f p q zero l = p
on_both f p q (suc zero) l = q
on_both f p q (suc (suc c)) l = absurd (omega arith)

abbrev AllTested : List Event → Type 0
AllTested es =
    (tested names_loan 0 unused es ≡ true) × (tested names_loan 1 unused es ≡ true) × (tested is_paced 0 unused es ≡ true) × (tested is_paced 1 unused es ≡ true)

it_is_met : (overflow : Bool) (state : ℕ) (es : List Event) → Runs (begin overflow state) es (ended (begin overflow state) es) → AllTested es → Met (begin overflow state) es
it_is_met overflow state es runs ok =
    record {
      fresh = it_begins overflow state;
      two = it_has_two overflow state;
      runs = runs;
      names = λ c l. along_tested NamesLoan names_loan names_shown c unused es (on_both (λ d. tested names_loan d unused es) ok.0 ok.1 c l);
      paced = λ c l. along_tested Paced is_paced paced_shown c unused es (on_both (λ d. tested is_paced d unused es) ok.2 ok.3 c l);
    }

pub met : GuaranteeMet
met =
    record {
      evicting_met = it_is_met true open_state evicting evicting_runs (refl, refl, refl, refl);
      evicting_said = record { accepts = refl; evicts = refl; receives = refl; holds = refl };
      pending_met = it_is_met false open_state pending pending_runs (refl, refl, refl, refl);
      pending_said = record { accepts = refl; evicts = refl; receives = refl; holds = refl };
      refusing_met = it_is_met false closed_state refusing refusing_runs (refl, refl, refl, refl);
      refusing_said = record { accepts = refl; evicts = refl; receives = refl; holds = refl };
      missing_received = refl;
      missing_released = refl;
      missing_reclaimed = refl;
    }
