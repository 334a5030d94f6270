-- What the limits of the settings say of the places.
use Rattle.std.proofs.Common.{ℕ, ◌+◌, ◌*◌, ◌≤◌, arith}
use Rattle.std.proofs.lemmas.Nat.{mul-le}
use Rattle.connection_words.specs.declared.settings.Settings.{Settings}
use Rattle.connection_words.specs.Settings.{Limits, segments, samples}
use Rattle.connection_words.specs.Places.{stride}

-- the words of up to 64 channels, their segments, and the words of up to n details
pub strides_few : (s : Settings) → Limits s → (c : ℕ) → c ≤ 64 → c * stride s ≤ 64 * 3078
strides_few s l c h = mul-le c (stride s) 64 3078 h (omega arith)

pub segments_few : (s : Settings) → Limits s → (c : ℕ) → c ≤ 64 → c * segments s ≤ 64 * 255
segments_few s l c h = mul-le c (segments s) 64 255 h (omega arith)

pub details_few : (s : Settings) → Limits s → (k n : ℕ) → k ≤ n → k * (1 + samples s) ≤ n * 65537
details_few s l k n h = mul-le k (1 + samples s) n 65537 h (omega arith)
