-- A new connection, and calls on it from the words that it has.
use Rattle.std.proofs.Common.{◌≡◌, ℕ, ◌≤◌, false, List, length, replicate, None, sym, ap, ◌∙◌, subst}
use Rattle.dynamic_storage.specs.declared.condition.Condition.{Condition}
use Rattle.dynamic_storage.specs.declared.condition.Condition.TheVariants.{Ready}
use Rattle.connection_words.specs.declared.settings.Settings.{Settings}
use Rattle.connection_words.specs.Settings.{too_small, too_large}
use Rattle.connection_words.specs.Places.{needed}
use Rattle.connection_ports.specs.declared.port.Port.{Port}
use Rattle.connection_ports.specs.Fresh.{fresh_words}
use Rattle.connection_ports.specs.Creation.{creation_refusal, creation_words, creation_condition}
use Rattle.connection_ports.specs.Laws.{other, BothOrders}
use Rattle.connection_ports.proofs.Orders.{both_orders}
use Rattle.zero_copy_connection.specs.Answers.{Answer}
use Rattle.channel_laws.specs.Calls.{State, state_of, Call}
use Rattle.worked_cases.specs.Courses.{with_port, with_one, connected, answers_of, after_all, Course}
use Rattle.worked_cases.proofs.Goes.{Goes, answers_of_lem, after_all_lem}

-- what both creations leave
abbrev pub new : Settings → List ℕ → State
new s before = state_of Ready (fresh_words s 0 3 before) (replicate 64 0)

-- a port joins a ready storage
joins : (p : Port) (s : Settings) (k : Condition) (w v : List ℕ) → k ≡ Ready → creation_refusal p s Ready w ≡ None → creation_words p s 0 Ready w ≡ v → with_port p s k w ≡ state_of Ready v (replicate 64 0)
joins p s k w v e f g = rw e (ap (λ (l : List ℕ). state_of (creation_condition p s Ready w) l (replicate 64 0)) g ∙ ap (λ (c : Condition). state_of c v (replicate 64 0)) (rw f))

module _ (p : Port) (s : Settings) (before : List ℕ) (orders : BothOrders s 0 before) where
  ready : (with_one p s before).condition ≡ Ready
  ready = rw (orders.first p)

  connected_new : connected p s before ≡ new s before
  connected_new =
      joins (other p) s (with_one p s before).condition (with_one p s before).words (fresh_words s 0 3 before) ready (orders.second p) (orders.same p)

-- a course, by calls on the words of a new connection
pub course : {p : Port} {s : Settings} {before : List ℕ} {calls : List Call} {answers : List Answer} {Ends : State → State → Type 0} → too_small s ≡ false → too_large s ≡ false → needed s ≤ length before → (u : State) → Goes (new s before) calls answers u → Ends (new s before) u → Course p s before calls answers Ends
course {p} {s} {before} {calls} {answers} {Ends} low high room u goes ends =
    let orders = both_orders s 0 before low high room in
    let e = connected_new p s before orders in
    record {
      first = orders.first p;
      second = subst (λ (k : Condition). creation_refusal (other p) s k (with_one p s before).words ≡ None) (sym (ready p s before orders)) (orders.second p);
      answer = ap (λ (t : State). answers_of t calls) e ∙ answers_of_lem goes;
      ends = subst (λ (t : State). Ends t (after_all t calls)) (sym e) (subst (Ends (new s before)) (sym (after_all_lem goes)) ends);
    }
