-- What closing a port answers and leaves.
use Rattle.std.specs.Prelude.{ℕ, ◌-◌, cond, ◌&&◌, List, ◌==◌, slice_index, slice_set}
use Rattle.dynamic_storage.specs.declared.condition.Condition.{Condition}
use Rattle.dynamic_storage.specs.declared.condition.Condition.TheVariants.{Absent}
use Rattle.connection_words.specs.Soundness.{sound}

-- the port state after the port with a bit is closed: the last port marks the connection for destruction, and the other
-- port stays
abbrev pub state_without : ℕ → ℕ → ℕ
state_without bit state = cond (state == bit) 128 (cond (state == 3) (3 - bit) state)

abbrev pub state_left : ℕ → List ℕ → ℕ
state_left bit words = state_without bit (slice_index words 0)

abbrev pub closed_words : ℕ → Condition → List ℕ → List ℕ
closed_words bit condition words = cond (sound condition words) (slice_set words 0 (state_left bit words)) words

-- a connection that is marked for destruction is absent
abbrev pub closed_condition : ℕ → Condition → List ℕ → Condition
closed_condition bit condition words = cond (sound condition words && state_left bit words == 128) Absent condition
