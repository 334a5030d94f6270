-- No way of a step refuses by 27 or 32.
use Rattle.std.proofs.Common.{◌≡◌, ℕ, ◌+◌, Bool, true, false, cond, not, eqb, List, get_or, Some, None, Option, arith}
use Rattle.dynamic_storage.specs.declared.condition.Condition.{Condition}
use Rattle.connection_words.specs.Soundness.{settings_of}
use Rattle.zero_copy_connection.specs.Checks.{channel_refusal}
use Rattle.zero_copy_connection.specs.Sending.{is_full}
use Rattle.blocking_send.specs.declared.action.BackpressureToReceiverAction.{BackpressureToReceiverAction}
use Rattle.blocking_send.specs.declared.action.BackpressureToReceiverAction.TheVariants.{FollowBackpressureyStrategy, Retry, DiscardPointerOffset, DiscardPointerOffsetAndFail}
use Rattle.blocking_send.specs.Waits.{Pending, Way, sends, refuses, waits, way_unless, later, stays, followed, decided, full_way, at_once, is_closed, wait_refusal, wait_way, step_way}
use Rattle.channel_laws.proofs.Refusals.{Plain, plain_channel}

abbrev pub Plainly : Way → Type 0
Plainly sends = Unit {0}
Plainly (refuses n) = Plain (Some n)
Plainly (waits next) = Unit {0}

unless_plainly : (o : Option ℕ) (way : Way) → Plain o → Plainly way → Plainly (way_unless o way)
unless_plainly (Some n) way p q = p
unless_plainly None way p q = q

cond_plainly : (b : Bool) (x y : Way) → Plainly x → Plainly y → Plainly (cond b x y)
cond_plainly true x y p q = p
cond_plainly false x y p q = q

plain_29 : (closed : Bool) → Plain (cond closed (Some 29) None)
plain_29 true n e = let same : 29 ≡ n = cc in (omega arith, omega arith)
plain_29 false n e = let z : ◌≡◌ {A = ℕ} 0 1 = cc in absurd (omega arith)

plain_wait : (apart closed : Bool) → Plain (cond apart (Some 28) (cond closed (Some 29) None))
plain_wait true closed n e = let same : 28 ≡ n = cc in (omega arith, omega arith)
plain_wait false closed n e = plain_29 closed n e

plain_30 : Plain (Some 30)
plain_30 n e = let same : 30 ≡ n = cc in (omega arith, omega arith)

plain_31 : Plain (Some 31)
plain_31 n e = let same : 31 ≡ n = cc in (omega arith, omega arith)

stays_plainly : (w : Pending) (retries : ℕ) (until : Bool) → Plainly (stays w retries until)
stays_plainly w retries until = cond_plainly (eqb w.budget 0) (refuses 31) (waits (later w retries until)) plain_31 tt

followed_plainly : (w : Pending) (a : BackpressureToReceiverAction) → Plainly (followed a w)
followed_plainly w FollowBackpressureyStrategy = tt
followed_plainly w Retry = stays_plainly w (w.retries + 1) true
followed_plainly w DiscardPointerOffset = tt
followed_plainly w DiscardPointerOffsetAndFail = plain_30

decided_plainly : (w : Pending) (a : BackpressureToReceiverAction) → Plainly (decided a w)
decided_plainly w FollowBackpressureyStrategy = followed_plainly w w.strategy
decided_plainly w Retry = stays_plainly w (w.retries + 1) false
decided_plainly w DiscardPointerOffset = tt
decided_plainly w DiscardPointerOffsetAndFail = plain_30

pub step_plainly : (k : Condition) (words : List ℕ) (w : Pending) (a : BackpressureToReceiverAction) → Plainly (step_way k words w a)
step_plainly k words w a =
    let s = settings_of words in
    let full = cond_plainly w.until_delivered (stays w w.retries true) (decided a w) (stays_plainly w w.retries true) (decided_plainly w a) in
    unless_plainly (channel_refusal k words w.channel) _ (plain_channel k words w.channel)
    (cond_plainly (at_once words s w) sends (wait_way words s w a) tt
    (unless_plainly (wait_refusal words s w.channel) _ (plain_wait (not (eqb (get_or words 0 0) 3)) (is_closed words s w.channel))
    (cond_plainly (not (is_full words s w.channel)) sends (full_way w a) tt full)))
