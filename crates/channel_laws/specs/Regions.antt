-- The places of a channel.
use Rattle.std.specs.Prelude.{◌≡◌, ℕ, ◌+◌, ◌<◌, ◌≤◌, ◌⊎◌, List, length}
use Rattle.connection_words.specs.declared.settings.Settings.{Settings}
use Rattle.connection_words.specs.Settings.{segments, samples}
use Rattle.connection_words.specs.Places.{stride, channel_at, detail_at}
use Rattle.connection_words.specs.Laws.{SameAt}

-- a place of channel c: among its own words, or in the detail of one of its segments
abbrev pub Mine : Settings → ℕ → ℕ → Type 0
Mine s c p =
    ((channel_at s c ≤ p) × (p < channel_at s c + stride s))
    ⊎ ((g : ℕ) × (g < segments s) × (detail_at s c g ≤ p) × (p < detail_at s c g + 1 + samples s))

-- as many words, which differ at places of channel c alone
pub record Only (s : Settings) (c : ℕ) (words others : List ℕ) : Type 0 where
  pub long : length others ≡ length words
  pub elsewhere : (p : ℕ) → (Mine s c p → ⊥) → SameAt others words p
