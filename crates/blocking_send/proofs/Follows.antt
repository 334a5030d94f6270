-- A full buffer under a policy that follows the strategy.
use Rattle.std.proofs.Common.{◌≡◌, ℕ, Bool, true, false, not, ◌&&◌, ◌||◌, eqb, List, refl}
use Rattle.dynamic_storage.specs.declared.condition.Condition.{Condition}
use Rattle.dynamic_storage.specs.declared.condition.Condition.TheVariants.{Ready}
use Rattle.connection_words.specs.Places.{channel_at, detail_at, needed}
use Rattle.zero_copy_connection.specs.Answers.{refused}
use Rattle.zero_copy_connection.specs.Checks.{channel_refusal}
use Rattle.zero_copy_connection.specs.Sending.{chunk_refusal, send_answer}
use Rattle.blocking_send.specs.declared.action.BackpressureToReceiverAction.TheVariants.{FollowBackpressureyStrategy, DiscardPointerOffsetAndFail}
use Rattle.blocking_send.specs.Waits.{Pending, begun, ends, step_outcome}
use Rattle.blocking_send.specs.Laws.{NoRoom, one_sent, FollowsAndFails}

not_at_once : (first overflow full : Bool) → overflow ≡ false → full ≡ true → first && (overflow || not full) ≡ false
not_at_once true overflow full e f = rw (e, f)
not_at_once false overflow full e f = refl

fails : (k : Condition) (words : List ℕ) (w : Pending) → NoRoom k words w.channel → w.until_delivered ≡ false
    → w.strategy ≡ DiscardPointerOffsetAndFail → step_outcome k words w FollowBackpressureyStrategy ≡ ends (refused 30)
fails k words w r u s =
    let first = not_at_once (eqb w.steps 0) _ _ r.overflow r.full in
    rw (r.served, first, r.connected, r.full, u, s)

send_fails : (k : Condition) (words : List ℕ) (c v size : ℕ) → NoRoom k words c → send_answer k words c v size ≡ refused 20
send_fails k words c v size r = rw (r.served, r.full, r.overflow)

one_sent_lem : NoRoom Ready one_sent 0
unfolding channel_refusal chunk_refusal channel_at detail_at needed
one_sent_lem = record { served = refl; full = refl; overflow = refl; connected = refl }

pub follows_and_fails : FollowsAndFails
follows_and_fails =
    record {
      fails = fails;
      send = send_fails;
      instance = one_sent_lem;
      example = λ budget. fails Ready one_sent (begun 16384 64 0 DiscardPointerOffsetAndFail budget) one_sent_lem refl refl;
    }
