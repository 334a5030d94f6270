use Rattle.std.proofs.Common.{◌∙◌}
use Rattle.std.proofs.lemmas.List.{with_items_is}
use Rattle.history_run.proofs.Histories.{ran_from}
use Rattle.history_run.proofs.running.run_history.Goals as goal

pub returns : goal.returns
returns g c =
    let made = c.in_ok-ports.ensures in
    let b = c.args.builder.now in
    let k = c.make_calls-answers.auto in
    let e = c.as_mut_slice.ensures.value in
    let l = c.as_mut_slice.ensures.len in
    record {
      ran =
          ran_from g.P.BackpressurePolicy.acts c.args.first b.settings b.initial_channel_state.0 _ _ made.leaves.0 _ _ _ _ _ _ _ _ _
          made.ports.2 (e ∙ c.in_ok-answers.ensures.slots) made.leaves.1
          (with_items_is c.in_ok-answers.field-0.waits c.make_calls-answers.new.waits (k.waits ∙ l)) c.make_calls-answers.ensures.course;
      ports = (made.ports.0, made.ports.1);
      left = tt;
      outside = c.make_calls-answers.ensures.outside ∙ made.outside;
    }
