-- What the policies that are built answer.
use Rattle.std.specs.Prelude.{ℕ, cond, nat_lt}
use Rattle.blocking_send.specs.declared.action.BackpressureToReceiverAction.{BackpressureToReceiverAction}
use Rattle.blocking_send.specs.declared.action.BackpressureToReceiverAction.TheVariants as action

abbrev pub retry_then_fail : ℕ → ℕ → BackpressureToReceiverAction
retry_then_fail n retries = cond (nat_lt retries n) action.Retry action.DiscardPointerOffsetAndFail
