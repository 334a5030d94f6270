-- The numbers of the refusals of a pending send.
use Rattle.std.specs.Prelude.{ℕ}
use Rattle.zero_copy_connection.specs.Numbers.{send_number}
use Rattle.blocking_send.specs.declared.error.ZeroCopyBlockingSendError.{ZeroCopyBlockingSendError}
use Rattle.blocking_send.specs.declared.error.ZeroCopyBlockingSendError.TheVariants as blocking

abbrev pub blocking_number : ZeroCopyBlockingSendError → ℕ
blocking_number (blocking.Send refusal) = send_number refusal
blocking_number blocking.NoConnectedReceiverAndBufferIsFull = 28
blocking_number blocking.ChannelIsClosed = 29
blocking_number blocking.UnableToDeliver = 30
blocking_number blocking.WaitSpent = 31
