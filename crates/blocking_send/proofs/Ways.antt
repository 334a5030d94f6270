-- What holds of every way that a step can go.
use Rattle.std.proofs.Common.{◌≡◌, ℕ, ◌+◌, Bool, true, false, cond, not, eqb, leb, List, Some, None, Option, refl, arith}
use Rattle.std.proofs.lemmas.Bool.Decides.{nat_tests}
use Rattle.dynamic_storage.specs.declared.condition.Condition.{Condition}
use Rattle.connection_words.specs.Settings.{channels}
use Rattle.connection_words.specs.Soundness.{sound, settings_of}
use Rattle.connection_words.specs.Queues.{channel_sound}
use Rattle.zero_copy_connection.specs.Checks.{channel_refusal}
use Rattle.zero_copy_connection.specs.Sending.{is_full}
use Rattle.blocking_send.specs.declared.action.BackpressureToReceiverAction.{BackpressureToReceiverAction}
use Rattle.blocking_send.specs.declared.action.BackpressureToReceiverAction.TheVariants.{FollowBackpressureyStrategy, Retry, DiscardPointerOffset, DiscardPointerOffsetAndFail}
use Rattle.blocking_send.specs.Waits.{Pending, Way, sends, refuses, waits, way_unless, later, stays, followed, decided, full_way, at_once, is_closed, wait_refusal, wait_way, step_way}

-- only a send gives 27
abbrev Not27 : Option ℕ → Type 0
Not27 (Some n) = n ≡ 27 → ⊥
Not27 None = Unit {0}

channel_not27 : (a b c : Bool) → Not27 (cond a (Some 50) (cond b (Some 51) (cond c (Some 50) None)))
channel_not27 true b c = λ e. omega arith
channel_not27 false true c = λ e. omega arith
channel_not27 false false true = λ e. omega arith
channel_not27 false false false = tt

opened_not27 : (condition : Condition) (words : List ℕ) (c : ℕ) → Not27 (channel_refusal condition words c)
unfolding channel_refusal
opened_not27 condition words c =
    channel_not27 (not (sound condition words)) (leb (channels (settings_of words)) c) (not (channel_sound words (settings_of words) c))

wait_not27 : (a b : Bool) → Not27 (cond a (Some 28) (cond b (Some 29) None))
wait_not27 true b = λ e. omega arith
wait_not27 false true = λ e. omega arith
wait_not27 false false = tt

module _ (P : Way → Type 0) (w : Pending) (sending : P sends) (refusing : (n : ℕ) → (n ≡ 27 → ⊥) → P (refuses n))
    (waiting : (retries : ℕ) (until : Bool) → (w.budget ≡ 0 → ⊥) → P (waits (later w retries until))) where
  tested : (b : Bool) (x y : Way) → P x → P y → P (cond b x y)
  tested true x y p q = p
  tested false x y p q = q

  unrefused : (o : Option ℕ) (way : Way) → Not27 o → P way → P (way_unless o way)
  unrefused (Some n) way f p = refusing n f
  unrefused None way f p = p

  spending : (retries : ℕ) (until b : Bool) → eqb w.budget 0 ≡ b → P (cond b (refuses 31) (waits (later w retries until)))
  spending retries until true e = refusing 31 (λ f. omega arith)
  spending retries until false e = waiting retries until (grind (arith, nat_tests))

  staying : (retries : ℕ) (until : Bool) → P (stays w retries until)
  staying retries until = spending retries until (eqb w.budget 0) refl

  following : (a : BackpressureToReceiverAction) → P (followed a w)
  following FollowBackpressureyStrategy = sending
  following Retry = staying (w.retries + 1) true
  following DiscardPointerOffset = sending
  following DiscardPointerOffsetAndFail = refusing 30 (λ f. omega arith)

  deciding : (a : BackpressureToReceiverAction) → P (decided a w)
  deciding FollowBackpressureyStrategy = following w.strategy
  deciding Retry = staying (w.retries + 1) false
  deciding DiscardPointerOffset = sending
  deciding DiscardPointerOffsetAndFail = refusing 30 (λ f. omega arith)

  pub every_way : (condition : Condition) (words : List ℕ) (a : BackpressureToReceiverAction) → P (step_way condition words w a)
  every_way condition words a =
      let s = settings_of words in
      let c = w.channel in
      unrefused (channel_refusal condition words c) _ (opened_not27 condition words c)
      (tested (at_once words s w) sends (wait_way words s w a) sending
      (unrefused (wait_refusal words s c) _ (wait_not27 _ (is_closed words s c))
      (tested (not (is_full words s c)) sends (full_way w a) sending
      (tested w.until_delivered (stays w w.retries true) (decided a w) (staying w.retries true) (deciding a)))))
