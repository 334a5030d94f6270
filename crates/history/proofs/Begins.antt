-- A fresh connection has the invariant on each channel, with nothing in the books.
use Rattle.std.proofs.Common.{◌≡◌, ℕ, ◌+◌, ◌*◌, ◌<◌, ◌≤◌, List, [], map, length, get_or, sym, refl, ap, ◌∙◌, subst, add-zero, add_assoc, arith}
use lib.ListN.{length-replicate, get_or-replicate}
use Rattle.std.specs.List.{range_with_len}
use Rattle.std.proofs.lemmas.Bool.{and_from, ne_eqb, le-ltb, lt-ltb, le-leb}
use Rattle.connection_words.specs.declared.settings.Settings.{Settings}
use Rattle.connection_words.specs.declared.ring.Ring.{Ring}
use Rattle.connection_words.specs.Settings.{Limits, segments, samples, channels}
use Rattle.connection_words.specs.Places.{stride, channel_at, detail_at, submission_of, completion_of}
use Rattle.connection_words.specs.Soundness.{settings_of}
use Rattle.connection_words.specs.Queues.{start, count, entry}
use Rattle.connection_words.proofs.Apart.{details_inside}
use Rattle.connection_ports.specs.Fresh.{fresh_word, fresh_words}
use Rattle.connection_ports.proofs.Freshly.{fresh_at, fresh_zero, fresh_settings}
use Rattle.connection_ports.proofs.Orders.{sound_fresh}
use Rattle.channel_laws.specs.Calls.{State}
use Rattle.channel_laws.proofs.Views.{QueueIs, View}
use Rattle.channel_laws.proofs.Sounds.{limits_of}
use Rattle.history.specs.Books.{unused}
use Rattle.history.specs.Guarantee.{Fresh, done}
use Rattle.history.proofs.Ledger.{Ledger, total}
use Rattle.history.proofs.Good.{Good, st}

queue_empty : (words : List ℕ) (q : Ring) → 0 < q.capacity → start words q ≡ 0 → count words q ≡ 0 → QueueIs words q []
queue_empty words q h e f =
    record {
      sound = and_from _ _ (lt-ltb (start words q) q.capacity (omega arith)) (le-leb (count words q) q.capacity (omega arith));
      are = ap (λ (n : ℕ). map (λ k. entry words q k) (range_with_len 0 n)) f;
    }

-- the words behind the channels are 0
detail_word : (s : Settings) (state ports place : ℕ) → 8 + channels s * stride s ≤ place → fresh_word s state ports place ≡ 0
detail_word s state ports place h =
    rw
    (ne_eqb place 0 (λ e. omega arith), ne_eqb place 1 (λ e. omega arith), ne_eqb place 2 (λ e. omega arith), ne_eqb place 3 (λ e. omega arith), ne_eqb place 4 (λ e. omega arith), ne_eqb place 5 (λ e. omega arith), ne_eqb place 6 (λ e. omega arith), ne_eqb place 7 (λ e. omega arith), le-ltb place (8 + channels s * stride s) h)

details_behind : (s : Settings) (c g : ℕ) → 8 + channels s * stride s ≤ detail_at s c g
unfolding detail_at
details_behind s c g = omega arith

module _ (s : Settings) (state : ℕ) (before : List ℕ) (lim : Limits s) (c : ℕ) (l : c < channels s) where
  abbrev fresh : List ℕ
  fresh = fresh_words s state 3 before

  head_zero : (j : ℕ) → 0 < j → j < 5 → get_or fresh (channel_at s c + j) 0 ≡ 0
  head_zero j h k = fresh_zero s state 3 before c j l h (omega arith)

  detail_zero : (g i : ℕ) → g < segments s → i ≤ samples s → get_or fresh (detail_at s c g + i) 0 ≡ 0
  detail_zero g i h k =
      fresh_at s state 3 before (detail_at s c g + i) (omega (arith, details_inside s c g l h))
      ∙ detail_word s state 3 (detail_at s c g + i) (omega (arith, details_behind s c g))

  fresh_view : View s c fresh [] [] (λ g. 0) (λ g i. 0)
  fresh_view =
      record {
        sub = queue_empty fresh (submission_of s c) (omega arith) (head_zero 1 (omega arith) (omega arith)) (rw (add_assoc (channel_at s c) 1 1) (head_zero 2 (omega arith) (omega arith)));
        comp = queue_empty fresh (completion_of s c) (omega arith) (head_zero 3 (omega arith) (omega arith)) (rw (add_assoc (channel_at s c) 3 1) (head_zero 4 (omega arith) (omega arith)));
        details =
            record {
              sizes = λ g h. rw (add-zero (detail_at s c g)) at (detail_zero g 0 h (omega arith));
              marks = λ g i h k. rw (add_assoc (detail_at s c g) 1 i) (detail_zero g (1 + i) h (omega arith));
            };
      }

unused_ledger : (s : Settings) → Ledger s unused
unused_ledger s =
    record {
      few = λ g i h k. omega arith;
      waits = tt;
      lent = tt;
      back = tt;
      loans = omega arith;
      whole = refl;
      order = refl;
      split = done;
      pace = omega arith;
    }

pub fresh_good : (t : State) → Fresh t → (c : ℕ) → c < channels (st t) → Good (st t) c t unused
fresh_good t f c l =
    let s : Settings = f.asked in
    let fresh : List ℕ = fresh_words s f.state 3 f.before in
    let is : st t ≡ s = ap settings_of f.written ∙ fresh_settings s f.state 3 f.before in
    let lim : Limits s = limits_of s f.low f.high in
    let there : c < channels s = subst (λ (z : Settings). c < channels z) is l in
    let here : c < 64 = omega arith in
    let view : View s c fresh [] [] unused.size (total unused) = fresh_view s f.state f.before lim c there in
    record {
      is = refl;
      stands = rw (f.ready, f.written) (sound_fresh s f.state f.before f.low f.high f.room 3 refl);
      many = ap length f.uncounted ∙ length-replicate {A = ℕ} 64 0;
      view = subst (λ (z : Settings). View z c t.words [] [] unused.size (total unused)) (sym is) (subst (λ (ws : List ℕ). View s c ws [] [] unused.size (total unused)) (sym f.written) view);
      counter = ap (λ (ns : List ℕ). get_or ns c 0) f.uncounted ∙ get_or-replicate 64 c 0 0 here;
      ledger = unused_ledger (st t);
    }
