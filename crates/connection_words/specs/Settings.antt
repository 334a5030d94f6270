-- The settings of a connection and their limits.
use Rattle.std.specs.Prelude.{ℕ, ◌+◌, ◌≤◌, Bool, cond, ◌||◌, ◌==◌, nat_lt}
use Rattle.connection_words.specs.declared.settings.Settings.{Settings}

abbrev pub buffer : Settings → ℕ
buffer s = s.buffer_size

abbrev pub borrowed : Settings → ℕ
borrowed s = s.max_borrowed_samples_per_channel

abbrev pub samples : Settings → ℕ
samples s = s.number_of_samples_per_segment

abbrev pub segments : Settings → ℕ
segments s = s.number_of_segments

abbrev pub channels : Settings → ℕ
channels s = s.number_of_channels

-- how many values can wait to be reclaimed on a channel
abbrev pub completions : Settings → ℕ
completions s = buffer s + borrowed s + 1

-- a builder raises 0 to 1, the least of each setting
abbrev pub at_least_one : ℕ → ℕ
at_least_one n = cond (n == 0) 1 n

abbrev pub raised : Settings → Settings
raised s =
    record {
      buffer_size = at_least_one (buffer s);
      max_borrowed_samples_per_channel = at_least_one (borrowed s);
      number_of_samples_per_segment = at_least_one (samples s);
      number_of_segments = at_least_one (segments s);
      number_of_channels = at_least_one (channels s);
      enable_safe_overflow = s.enable_safe_overflow;
    }

-- whether a setting is above its limit
abbrev pub too_large : Settings → Bool
too_large s = nat_lt 1024 (buffer s) || (nat_lt 1024 (borrowed s) || (nat_lt 65536 (samples s) || (nat_lt 255 (segments s) || nat_lt 64 (channels s))))

-- whether a setting is below its least
abbrev pub too_small : Settings → Bool
too_small s = buffer s == 0 || (borrowed s == 0 || (samples s == 0 || (segments s == 0 || channels s == 0)))

-- from low to high
abbrev pub Between : ℕ → ℕ → ℕ → Type 0
Between low n high = (low ≤ n) × (n ≤ high)

-- each setting is at least 1 and within its limit
abbrev pub Limits : Settings → Type 0
Limits s = Between 1 (buffer s) 1024 × Between 1 (borrowed s) 1024 × Between 1 (samples s) 65536 × Between 1 (segments s) 255 × Between 1 (channels s) 64
