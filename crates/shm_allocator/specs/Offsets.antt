-- A payload's place as one number: (offset mod 2^56) x 256 + segment.
use Rattle.std.specs.Prelude.{ℕ, ◌+◌, ◌*◌, ◌/◌, ◌%◌, ◌^◌, ◌<◌, ◌≡◌}

abbrev pub value_of : ℕ → ℕ → ℕ
value_of offset segment = offset % 2 ^ 56 * 256 + segment

abbrev pub segment_of : ℕ → ℕ
segment_of value = value % 256

abbrev pub offset_of : ℕ → ℕ
offset_of value = value / 256

-- making a value and taking it apart are inverse to each other
pub record Inverse : Type 0 where
  pub segment : (offset segment : ℕ) → segment < 256 → segment_of (value_of offset segment) ≡ segment
  pub offset : (offset segment : ℕ) → segment < 256 → offset_of (value_of offset segment) ≡ offset % 2 ^ 56
  pub value : (value : ℕ) → value < 2 ^ 64 → value_of (offset_of value) (segment_of value) ≡ value
