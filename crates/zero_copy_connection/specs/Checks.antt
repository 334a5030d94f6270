-- What every call on a channel checks first.
use Rattle.std.specs.Prelude.{ℕ, cond, not, List, Some, None, Option, nat_le}
use Rattle.dynamic_storage.specs.declared.condition.Condition.{Condition}
use Rattle.connection_words.specs.Settings.{channels}
use Rattle.connection_words.specs.Soundness.{sound, settings_of}
use Rattle.connection_words.specs.Queues.{channel_sound}

-- 50 if anything but a queue is unsound, 51 for a channel that is not there, 50 for an unsound queue of the channel
unfoldable pub channel_refusal : Condition → List ℕ → ℕ → Option ℕ
channel_refusal condition words c =
    cond (not (sound condition words)) (Some 50)
    (cond (nat_le (channels (settings_of words)) c) (Some 51)
    (cond (not (channel_sound words (settings_of words) c)) (Some 50) None))
