-- What holds of every step of a pending send, whatever its policy answers.
use Rattle.std.specs.Prelude.{◌≡◌, ℕ, ◌+◌, true, false, List, [], ◌∷◌, length, None, ◌≢◌}
use Rattle.dynamic_storage.specs.declared.condition.Condition.{Condition}
use Rattle.dynamic_storage.specs.declared.condition.Condition.TheVariants.{Ready}
use Rattle.connection_words.specs.Soundness.{settings_of}
use Rattle.connection_words.specs.Laws.{settings_with}
use Rattle.connection_ports.specs.Fresh.{fresh_words}
use Rattle.zero_copy_connection.specs.Answers.{Answer, refused}
use Rattle.zero_copy_connection.specs.Checks.{channel_refusal}
use Rattle.zero_copy_connection.specs.Sending.{is_full, send_answer, send_words}
use Rattle.blocking_send.specs.declared.action.BackpressureToReceiverAction.{BackpressureToReceiverAction}
use Rattle.blocking_send.specs.declared.action.BackpressureToReceiverAction.TheVariants.{FollowBackpressureyStrategy, DiscardPointerOffsetAndFail}
use Rattle.blocking_send.specs.Waits.{Pending, begun, goes, ends, wait_refusal, step_outcome, step_words}

-- what a step meets: the condition and the words of the storage, and the action that the policy answers
pub record Met : Type 0 where
  pub condition : Condition
  pub words : List ℕ
  pub action : BackpressureToReceiverAction

-- a step leaves all words as they were where the send stays pending, and where it is refused by another number than 27;
-- every other step answers and leaves what a send does
pub record StepsLeave : Type 0 where
  pub pending : (m : Met) (w next : Pending)
      → step_outcome m.condition m.words w m.action ≡ goes next → step_words m.condition m.words w m.action ≡ m.words
  pub refusal : (m : Met) (w : Pending) (n : ℕ)
      → step_outcome m.condition m.words w m.action ≡ ends (refused n) → (n ≢ 27) → step_words m.condition m.words w m.action ≡ m.words
  pub sent : (m : Met) (w : Pending) (a : Answer)
      → step_outcome m.condition m.words w m.action ≡ ends a → ((n : ℕ) → a ≡ refused n → n ≡ 27)
      → (a ≡ send_answer m.condition m.words w.channel w.value w.size)
      × (step_words m.condition m.words w m.action ≡ send_words m.condition m.words w.channel w.value w.size)

-- a send is still pending after steps that met these, one after the other
abbrev pub StillPending : List Met → Pending → Pending → Type 0
StillPending [] w last = w ≡ last
StillPending (m ∷ met) w last =
    (next : Pending) × (step_outcome m.condition m.words w m.action ≡ goes next) × StillPending met next last

-- what a send was begun with stays, and n steps more were made
abbrev pub Kept : ℕ → Pending → Pending → Type 0
Kept n w last =
    (last.value ≡ w.value) × (last.size ≡ w.size) × (last.channel ≡ w.channel) × (last.strategy ≡ w.strategy) × (last.steps ≡ w.steps + n)

-- each step after which a send is still pending takes one of its budget, so it ends at the latest with the step after
-- as many steps as its budget
pub record WaitsEnd : Type 0 where
  pub spent : (met : List Met) (w last : Pending) → StillPending met w last → length met + last.budget ≡ w.budget
  pub kept : (met : List Met) (w last : Pending) → StillPending met w last → Kept (length met) w last

-- the buffer is full and does not overflow, both ports are there, and the channel is open
pub record NoRoom (condition : Condition) (words : List ℕ) (c : ℕ) : Type 0 where
  pub served : channel_refusal condition words c ≡ None
  pub full : is_full words (settings_of words) c ≡ true
  pub overflow : (settings_of words).enable_safe_overflow ≡ false
  pub connected : wait_refusal words (settings_of words) c ≡ None

-- the words of a connection with one channel, one segment of eight samples and a buffer of one, after one value was sent
abbrev pub one_sent : List ℕ
one_sent = send_words Ready (fresh_words (settings_with 1 1 8 1 1 false) 0 3 []) 0 0 64

-- where there is no room, the policy follows the strategy, and that is to fail, 30 is given and not the 20 of a send
pub record FollowsAndFails : Type 0 where
  pub fails : (condition : Condition) (words : List ℕ) (w : Pending) → NoRoom condition words w.channel
      → w.until_delivered ≡ false → w.strategy ≡ DiscardPointerOffsetAndFail
      → step_outcome condition words w FollowBackpressureyStrategy ≡ ends (refused 30)
  pub send : (condition : Condition) (words : List ℕ) (c v size : ℕ) → NoRoom condition words c → send_answer condition words c v size ≡ refused 20
  pub instance : NoRoom Ready one_sent 0
  pub example : (budget : ℕ) → step_outcome Ready one_sent (begun 16384 64 0 DiscardPointerOffsetAndFail budget) FollowBackpressureyStrategy ≡ ends (refused 30)
