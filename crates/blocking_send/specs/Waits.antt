-- What a step of a pending send comes to.
use Rattle.std.specs.Prelude.{ℕ, ◌+◌, ◌-◌, ◌^◌, Bool, true, false, cond, not, ◌&&◌, ◌||◌, List, Some, None, Option, ◌==◌, slice_index}
use Rattle.dynamic_storage.specs.declared.condition.Condition.{Condition}
use Rattle.connection_words.specs.declared.settings.Settings.{Settings}
use Rattle.connection_words.specs.Places.{state_at}
use Rattle.connection_words.specs.Soundness.{settings_of}
use Rattle.zero_copy_connection.specs.Answers.{Answer, refused}
use Rattle.zero_copy_connection.specs.Checks.{channel_refusal}
use Rattle.zero_copy_connection.specs.Sending.{is_full, send_answer, send_words}
use Rattle.blocking_send.specs.declared.action.BackpressureToReceiverAction.{BackpressureToReceiverAction}
use Rattle.blocking_send.specs.declared.action.BackpressureToReceiverAction.TheVariants.{FollowBackpressureyStrategy, Retry, DiscardPointerOffset, DiscardPointerOffsetAndFail}

-- a pending send: what it is to send and where, the action that its strategy names, how many steps it may still stay
-- pending, how often its policy was asked, how many steps it made, and whether it was told to retry until delivered
pub record Pending : Type 0 where
  pub value : ℕ
  pub size : ℕ
  pub channel : ℕ
  pub strategy : BackpressureToReceiverAction
  pub budget : ℕ
  pub retries : ℕ
  pub steps : ℕ
  pub until_delivered : Bool

abbrev pub begun : ℕ → ℕ → ℕ → BackpressureToReceiverAction → ℕ → Pending
begun v size c strategy budget =
    record { value = v; size = size; channel = c; strategy = strategy; budget = budget; retries = 0; steps = 0; until_delivered = false }

-- how long a send has been pending
abbrev pub elapsed : Pending → ℕ
elapsed w = w.steps

-- a step later, with one less of the budget
abbrev pub later : Pending → ℕ → Bool → Pending
later w retries until =
    record {
      value = w.value;
      size = w.size;
      channel = w.channel;
      strategy = w.strategy;
      budget = w.budget - 1;
      retries = retries;
      steps = w.steps + 1;
      until_delivered = until;
    }

-- which way a step goes: it ends by a send, it ends by a refusal, or the send stays pending
pub data Way : Type 0 where
  sends : Way
  refuses : ℕ → Way
  waits : Pending → Way

abbrev pub way_unless : Option ℕ → Way → Way
way_unless (Some n) way = refuses n
way_unless None way = way

-- the send stays pending, but 31 where its budget is spent
abbrev pub stays : Pending → ℕ → Bool → Way
stays w retries until = cond (w.budget == 0) (refuses 31) (waits (later w retries until))

-- what the strategy's action comes to, where the policy follows it: to retry is to retry until delivered
abbrev pub followed : BackpressureToReceiverAction → Pending → Way
followed FollowBackpressureyStrategy w = sends
followed Retry w = stays w (w.retries + 1) true
followed DiscardPointerOffset w = sends
followed DiscardPointerOffsetAndFail w = refuses 30

-- what the policy's action comes to
abbrev pub decided : BackpressureToReceiverAction → Pending → Way
decided FollowBackpressureyStrategy w = followed w.strategy w
decided Retry w = stays w (w.retries + 1) false
decided DiscardPointerOffset w = sends
decided DiscardPointerOffsetAndFail w = refuses 30

-- where there is no room: a send that was told to retry until delivered does not ask again, any other does as the policy
-- says
abbrev pub full_way : Pending → BackpressureToReceiverAction → Way
full_way w action = cond w.until_delivered (stays w w.retries true) (decided action w)

-- the first step sends at once if the buffer overflows or is not full
abbrev pub at_once : List ℕ → Settings → Pending → Bool
at_once words s w = w.steps == 0 && (s.enable_safe_overflow || not (is_full words s w.channel))

-- the state of a closed channel
abbrev pub is_closed : List ℕ → Settings → ℕ → Bool
is_closed words s c = slice_index words (state_at s c) == 2 ^ 64 - 1

-- 28 unless both ports are there, then 29 on a closed channel
abbrev pub wait_refusal : List ℕ → Settings → ℕ → Option ℕ
wait_refusal words s c =
    cond (not (slice_index words 0 == 3)) (Some 28)
    (cond (is_closed words s c) (Some 29) None)

-- any other step: 28 or 29, and else it sends if there is room by now
abbrev pub wait_way : List ℕ → Settings → Pending → BackpressureToReceiverAction → Way
wait_way words s w action =
    way_unless (wait_refusal words s w.channel) (cond (not (is_full words s w.channel)) sends (full_way w action))

-- which way a step goes, where the policy answers an action for the retries and the time elapsed
abbrev pub step_way : Condition → List ℕ → Pending → BackpressureToReceiverAction → Way
step_way condition words w action =
    way_unless (channel_refusal condition words w.channel)
    (cond (at_once words (settings_of words) w) sends (wait_way words (settings_of words) w action))

-- what a step comes to: the send goes on, or it ends with an answer
pub data Outcome : Type 0 where
  goes : Pending → Outcome
  ends : Answer → Outcome

abbrev pub outcome_by : Way → Answer → Outcome
outcome_by sends sent = ends sent
outcome_by (refuses n) sent = ends (refused n)
outcome_by (waits next) sent = goes next

abbrev pub step_outcome : Condition → List ℕ → Pending → BackpressureToReceiverAction → Outcome
step_outcome condition words w action =
    outcome_by (step_way condition words w action) (send_answer condition words w.channel w.value w.size)

-- a step leaves all words as they were, unless it ends by a send
abbrev pub words_by : Way → List ℕ → List ℕ → List ℕ
words_by sends words sent = sent
words_by (refuses n) words sent = words
words_by (waits next) words sent = words

abbrev pub step_words : Condition → List ℕ → Pending → BackpressureToReceiverAction → List ℕ
step_words condition words w action =
    words_by (step_way condition words w action) words (send_words condition words w.channel w.value w.size)
