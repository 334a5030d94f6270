-- The worked cases.
use Rattle.std.specs.Prelude.{◌≡◌, ℕ, true, false, List, [], ◌∷◌, length, Some, None}
use Rattle.dynamic_storage.specs.declared.condition.Condition.TheVariants.{Absent}
use Rattle.shm_allocator.specs.Offsets.{value_of, segment_of, offset_of}
use Rattle.connection_words.specs.declared.settings.Settings.{Settings}
use Rattle.connection_words.specs.Settings.{completions}
use Rattle.connection_words.specs.Places.{needed}
use Rattle.connection_words.specs.Laws.{settings_with}
use Rattle.connection_ports.specs.declared.port.Port.{Port}
use Rattle.connection_ports.specs.Creation.{creation_refusal}
use Rattle.zero_copy_connection.specs.Answers.{refused, nothing, value}
use Rattle.channel_laws.specs.Calls.{Call, sends, receives, releases, reclaims}
use Rattle.worked_cases.specs.Courses.{waiting, returned, on_loan, is_marked, Case}

-- a buffer of one, one borrowed, one segment of eight samples, one channel, no overflow
abbrev pub small : Settings
small = settings_with 1 1 8 1 1 false

-- the same with a buffer of two that overflows
abbrev pub overflowing : Settings
overflowing = settings_with 2 1 8 1 1 true

-- the value of an offset in the only segment
abbrev pub value_at : ℕ → ℕ
value_at offset = value_of offset 0

-- the calls on the only channel, with samples of size 64
abbrev pub send : ℕ → Call
send offset = sends (value_at offset) 64 0

abbrev pub receive : Call
receive = receives 0

abbrev pub release : ℕ → Call
release offset = releases (value_at offset) 0

abbrev pub reclaim : Call
reclaim = reclaims 0

pub record WorkedCases : Type 0 where
  -- offset 64 in segment 3 is the value 16387
  pub value_made : value_of 64 3 ≡ 16387
  -- taken apart, that value is segment 3 and offset 64 again
  pub value_apart : (segment_of 16387 ≡ 3) × (offset_of 16387 ≡ 64)
  -- three values can wait to be reclaimed
  pub capacity : completions small ≡ 3
  -- 26 words are needed
  pub words : needed small ≡ 26
  -- an absent storage with 25 words is refused by 2
  pub too_short : (p : Port) (before : List ℕ) → length before ≡ 25 → creation_refusal p small Absent before ≡ Some 2
  -- one with 26 words is accepted
  pub long_enough : (p : Port) (before : List ℕ) → length before ≡ 26 → creation_refusal p small Absent before ≡ None
  -- offset 448, the last sample, is sent: it waits, and its chunk is marked as used
  pub last_sample : Case small (send 448 ∷ []) (nothing ∷ []) (λ t u. (waiting u ≡ value_at 448 ∷ []) × (is_marked u (value_at 448) ≡ true))
  -- offset 512 lies behind the last sample: 25, and everything stays
  pub past_last_sample : Case small (send 512 ∷ []) (refused 25 ∷ []) (λ t u. u ≡ t)
  -- where there is room, size 0 is 22
  pub zero_size : Case small (sends (value_at 64) 0 0 ∷ []) (refused 22 ∷ []) (λ t u. u ≡ t)
  -- where the buffer is full, size 0 is 20
  pub zero_size_full : Case small (send 0 ∷ sends (value_at 64) 0 0 ∷ []) (nothing ∷ refused 20 ∷ []) (λ t u. waiting u ≡ value_at 0 ∷ [])
  -- one is on loan and nothing waits: a receive is 40
  pub one_on_loan : Case small (send 0 ∷ receive ∷ receive ∷ []) (nothing ∷ value (value_at 0) ∷ refused 40 ∷ []) (λ t u. (waiting u ≡ []) × (on_loan u ≡ 1))
  -- three are sent, received and released, and none is reclaimed: the fourth release is 41, and the fourth stays on loan
  pub fourth-release :
      Case small
      (send 0 ∷ receive ∷ release 0 ∷ send 64 ∷ receive ∷ release 64 ∷ send 128 ∷ receive ∷ release 128 ∷ send 192 ∷ receive ∷ release 192 ∷ [])
      (nothing ∷ value (value_at 0) ∷ nothing ∷ nothing ∷ value (value_at 64) ∷ nothing ∷ nothing ∷ value (value_at 128) ∷ nothing ∷ nothing ∷ value (value_at 192) ∷ refused 41 ∷ [])
      (λ t u. (waiting u ≡ []) × (on_loan u ≡ 1) × (returned u ≡ value_at 0 ∷ value_at 64 ∷ value_at 128 ∷ []))
  -- a value was reclaimed while it waits, so its chunk is free when it is evicted: 27, and the value that was sent waits
  pub evicted-unused :
      Case overflowing
      (send 0 ∷ send 64 ∷ receive ∷ release 64 ∷ reclaim ∷ send 128 ∷ send 192 ∷ [])
      (nothing ∷ nothing ∷ value (value_at 0) ∷ nothing ∷ value (value_at 64) ∷ nothing ∷ refused 27 ∷ [])
      (λ t u. (waiting u ≡ value_at 128 ∷ value_at 192 ∷ []) × (is_marked u (value_at 64) ≡ false) × (is_marked u (value_at 192) ≡ true))
