-- Where the parts of a connection stand in its words.
--
--   0 to 7       port state, buffer size, max borrowed, samples, segments, channels, overflow, completion capacity
--   channel c    state, submission start, submission count, completion start, completion count, the submission slots, the completion slots
--   detail c g   the sample size of segment g on channel c, 0 for none yet, and a mark for each sample
use Rattle.std.specs.Prelude.{ℕ, ◌+◌, ◌*◌}
use Rattle.connection_words.specs.declared.settings.Settings.{Settings}
use Rattle.connection_words.specs.declared.ring.Ring.{Ring}
use Rattle.connection_words.specs.Settings.{buffer, segments, samples, channels, completions}

-- how many words a channel takes
abbrev pub stride : Settings → ℕ
stride s = 5 + buffer s + completions s

-- where channel c begins
unfoldable pub channel_at : Settings → ℕ → ℕ
channel_at s c = 8 + c * stride s

-- where the detail of channel c and segment g begins, with the size of the segment's samples
unfoldable pub detail_at : Settings → ℕ → ℕ → ℕ
detail_at s c g = 8 + channels s * stride s + (c * segments s + g) * (1 + samples s)

-- how many words a connection needs
unfoldable pub needed : Settings → ℕ
needed s = 8 + channels s * stride s + channels s * segments s * (1 + samples s)

-- the state of channel c
abbrev pub state_at : Settings → ℕ → ℕ
state_at s c = channel_at s c

-- the values that wait to be received on channel c, and those that wait to be reclaimed
abbrev pub submission_of : Settings → ℕ → Ring
submission_of s c = record { heads = channel_at s c + 1; slots = channel_at s c + 5; capacity = buffer s }

abbrev pub completion_of : Settings → ℕ → Ring
completion_of s c = record { heads = channel_at s c + 3; slots = channel_at s c + 5 + buffer s; capacity = completions s }

-- the size of the samples of segment g on channel c
abbrev pub size_at : Settings → ℕ → ℕ → ℕ
size_at s c g = detail_at s c g

-- the mark of sample i of segment g on channel c
abbrev pub mark_at : Settings → ℕ → ℕ → ℕ → ℕ
mark_at s c g i = detail_at s c g + 1 + i
