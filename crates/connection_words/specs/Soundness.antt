-- When the words of a storage are a connection.
use Rattle.std.specs.Prelude.{ℕ, Bool, true, false, not, ◌&&◌, ◌||◌, List, length, ◌==◌, nat_le, slice_index}
use Rattle.dynamic_storage.specs.declared.condition.Condition.{Condition}
use Rattle.dynamic_storage.specs.declared.condition.Condition.TheVariants.{Absent, Forming, Ready, Broken, OtherVersion}
use Rattle.connection_words.specs.declared.settings.Settings.{Settings}
use Rattle.connection_words.specs.Settings.{completions, too_large, too_small}
use Rattle.connection_words.specs.Places.{needed}

abbrev pub is_ready : Condition → Bool
is_ready Absent = false
is_ready Forming = false
is_ready Ready = true
is_ready Broken = false
is_ready OtherVersion = false

-- the settings that the words state
abbrev pub settings_of : List ℕ → Settings
settings_of words =
    record {
      buffer_size = slice_index words 1;
      max_borrowed_samples_per_channel = slice_index words 2;
      number_of_samples_per_segment = slice_index words 3;
      number_of_segments = slice_index words 4;
      number_of_channels = slice_index words 5;
      enable_safe_overflow = (slice_index words 6 == 1);
    }

-- no port, the sender, the receiver, both, or marked for destruction
abbrev pub port_state : ℕ → Bool
port_state n = nat_le n 3 || n == 128

-- sound but for the queues: the storage is ready, the port state is one, the settings lie in their limits, the
-- completion capacity fits them, and all the words that are needed are there
abbrev pub sound : Condition → List ℕ → Bool
sound condition words =
    is_ready condition
    && (port_state (slice_index words 0)
    && (not (too_small (settings_of words))
    && (not (too_large (settings_of words))
    && (nat_le (slice_index words 6) 1
    && (slice_index words 7 == completions (settings_of words) && nat_le (needed (settings_of words)) (length words))))))
