-- What is seen of a send that waits, and of its step.
use Rattle.std.specs.Prelude.{Some, None, Ok, Err, Option, Result}
use Rattle.zero_copy_connection.specs.Answers.{answer_of, optional}
use Rattle.blocking_send.specs.declared.error.ZeroCopyBlockingSendError.{ZeroCopyBlockingSendError}
use Rattle.blocking_send.specs.declared.waiting.Waiting.{Waiting}
use Rattle.blocking_send.specs.declared.waiting.Step.{Step}
use Rattle.blocking_send.specs.declared.waiting.Step.TheVariants as step
use Rattle.blocking_send.specs.Numbers.{blocking_number}
use Rattle.blocking_send.specs.Waits.{Pending, Way, sends, refuses, waits, Outcome, goes, ends}

abbrev pub view_of : Waiting → Pending
view_of w =
    record {
      value = w.value.0;
      size = w.sample_size;
      channel = w.channel;
      strategy = w.strategy;
      budget = w.budget;
      retries = w.retries;
      steps = w.steps;
      until_delivered = w.until_delivered;
    }

-- the way of a step that is refused, after which the send stays pending, or that sends
abbrev pub way_of : Result (Option Waiting) ZeroCopyBlockingSendError → Way
way_of (Ok (Some w)) = waits (view_of w)
way_of (Ok None) = sends
way_of (Err e) = refuses (blocking_number e)

abbrev pub outcome_of : Step → Outcome
outcome_of (step.Pending w) = goes (view_of w)
outcome_of (step.Ended r) = ends (answer_of optional blocking_number r)
