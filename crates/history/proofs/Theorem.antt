-- The guarantee.
use Rattle.std.proofs.Common.{◌≡◌, ℕ, ◌<◌, ◌≢◌, List, ◌++◌, get_or, sym, ap, ◌∙◌, subst, arith}
use Rattle.std.specs.List.{ContainsAt}
use Rattle.std.proofs.ByRecursion.{All-get_or}
use Rattle.connection_words.specs.declared.settings.Settings.{Settings}
use Rattle.connection_words.specs.Settings.{segments, samples}
use Rattle.connection_words.specs.Places.{mark_at, submission_of, completion_of}
use Rattle.connection_words.specs.Queues.{entries}
use Rattle.channel_laws.specs.Calls.{State}
use Rattle.channel_laws.specs.Readings.{settings, mark_in}
use Rattle.history.specs.Events.{Event}
use Rattle.history.specs.Books.{Books, unused, books}
use Rattle.history.specs.Guarantee.{Stored, Kept, Inside, held_chunks, held, LeavesOut, GuaranteeHolds}
use Rattle.history.proofs.Ledger.{total, leaves_rest}
use Rattle.history.proofs.Chunks.{tally_held, has_chunk, counts_chunk, all_inside, none_twice}
use Rattle.history.proofs.Pushes.{runs_prefix}
use Rattle.history.proofs.Good.{Good}
use Rattle.history.proofs.Runs.{Course, run}
use Rattle.history.proofs.Begins.{fresh_good}

module _ (s : Settings) (c : ℕ) (b : Books) (z : State) (good : Good s c z b) where
  mark_is : (g i : ℕ) → g < segments s → i < samples s → mark_in z c g i ≡ total b g i
  mark_is g i h k = ap (λ (x : Settings). get_or z.words (mark_at x c g i) 0) good.is ∙ good.view.details.marks g i h k

  inside_if_held : (g i : ℕ) → ContainsAt (held_chunks b) (g, i) → Inside s (g, i)
  inside_if_held g i m =
      subst (Inside s) (m.2 (0, 0)) (All-get_or (Inside s) (held_chunks b) m.0 (0, 0) m.1 (all_inside b s good.ledger))

  stored : Stored s c b z
  stored =
      record {
        same_settings = good.is;
        held_if_used = λ g i h k m. has_chunk b g i (held b) (let e : total b g i ≢ 0 = λ q. m (mark_is g i h k ∙ q) in omega (arith, tally_held b g i));
        used_if_held = λ g i m e.
            let there : Inside s (g, i) = inside_if_held g i m in
            let p = counts_chunk b g i (held b) m.0 (0, 0) m.1 (m.2 (0, 0)) in
            omega (arith, p, tally_held b g i, mark_is g i there.0 there.1);
        waits = ap (λ (x : Settings). entries z.words (submission_of x c)) good.is ∙ good.view.sub.are;
        returns = ap (λ (x : Settings). entries z.words (completion_of x c)) good.is ∙ good.view.comp.are;
        borrows = good.counter;
      }

kept : (s : Settings) (c : ℕ) (es : List Event) (z : State) → Course s c unused es z → Kept s c es z
kept s c es z all =
    let b : Books = books c es in
    let order : b.accepted ≡ b.left ++ b.waiting = all.good.ledger.order in
    record {
      stored = stored s c b z all.good;
      inside = all_inside b s all.good.ledger;
      apart = none_twice b s all.good.ledger;
      whole = all.good.ledger.whole;
      in_order = order;
      delivers = subst (λ (xs : List ℕ). LeavesOut xs b.evicted (b.received ++ b.waiting)) (sym order) (leaves_rest b.waiting all.good.ledger.split);
      oldest = all.oldest;
      unrefused = all.unrefused (omega arith);
      uncorrupted = all.clean;
    }

pub holds : GuaranteeHolds
holds t z es fs c f r l k =
    let p = runs_prefix es fs t z r in
    (p.0, p.1, p.2, kept (settings t) c es p.0 (run es (settings t) c t p.0 unused (fresh_good t f c l) l p.1 k))
