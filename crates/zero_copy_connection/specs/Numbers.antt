-- The numbers of the refusals of calls on a channel.
use Rattle.std.specs.Prelude.{ℕ}
use Rattle.zero_copy_connection.specs.declared.error.ChannelError.{ChannelError}
use Rattle.zero_copy_connection.specs.declared.error.ChannelError.TheVariants as channel
use Rattle.zero_copy_connection.specs.declared.error.ZeroCopySendError.{ZeroCopySendError}
use Rattle.zero_copy_connection.specs.declared.error.ZeroCopySendError.TheVariants as send
use Rattle.zero_copy_connection.specs.declared.error.ZeroCopyReceiveError.{ZeroCopyReceiveError}
use Rattle.zero_copy_connection.specs.declared.error.ZeroCopyReceiveError.TheVariants as receive
use Rattle.zero_copy_connection.specs.declared.error.ZeroCopyReleaseError.{ZeroCopyReleaseError}
use Rattle.zero_copy_connection.specs.declared.error.ZeroCopyReleaseError.TheVariants as release
use Rattle.zero_copy_connection.specs.declared.error.ZeroCopyReclaimError.{ZeroCopyReclaimError}
use Rattle.zero_copy_connection.specs.declared.error.ZeroCopyReclaimError.TheVariants as reclaim

abbrev pub channel_number : ChannelError → ℕ
channel_number channel.Unsound = 50
channel_number channel.BadChannel = 51

abbrev pub send_number : ZeroCopySendError → ℕ
send_number (send.Channel refusal) = channel_number refusal
send_number send.ReceiveBufferFull = 20
send_number send.BadSegment = 21
send_number send.ZeroSize = 22
send_number send.SizeChanged = 23
send_number send.Misaligned = 24
send_number send.IndexTooLarge = 25
send_number send.AlreadyUsed = 26
send_number send.ConnectionCorrupted = 27

abbrev pub receive_number : ZeroCopyReceiveError → ℕ
receive_number (receive.Channel refusal) = channel_number refusal
receive_number receive.ReceiveWouldExceedMaxBorrowValue = 40

abbrev pub release_number : ZeroCopyReleaseError → ℕ
release_number (release.Channel refusal) = channel_number refusal
release_number release.RetrieveBufferFull = 41
release_number release.NothingBorrowed = 42

abbrev pub reclaim_number : ZeroCopyReclaimError → ℕ
reclaim_number (reclaim.Channel refusal) = channel_number refusal
reclaim_number reclaim.ReceiverReturnedCorruptedPointerOffset = 32
