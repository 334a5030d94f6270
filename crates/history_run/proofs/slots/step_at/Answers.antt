use Rattle.std.proofs.Common.{refl, rules}
use Rattle.blocking_send.specs.Seen.{view_of}
use Rattle.history_run.specs.Made.{views}
use Rattle.history_run.proofs.Slotted.{none_stays, goes_on}
use Rattle.history_run.proofs.slots.step_at.Goals as goal

pub returns-in_default : goal.returns-in_default
returns-in_default g c =
    record {
      leaves = λ counts.
          none_stays g.P.BackpressurePolicy.acts c.args.policy.now (g.S.DynamicStorage.condition c.args.storage.now) (g.S.DynamicStorage.words c.args.storage.now)
          counts (views c.args.waits.now) (views c.take_at.new.waits) c.args.id c.take_at.ensures.leaves c.in_default.ensures.answer;
      answer = λ counts. search rules;
      outside = refl;
    }

pub returns-in-Pending : goal.returns-in-Pending
returns-in-Pending g c =
    record {
      leaves = λ counts.
          goes_on g.P.BackpressurePolicy.acts c.args.policy.now (g.S.DynamicStorage.condition c.args.storage.now) (g.S.DynamicStorage.words c.args.storage.now)
          counts (views c.args.waits.now) (views c.take_at.new.waits) c.args.id c.take_at.ensures.leaves
          (view_of c.in-Some.waiting) _ _ c.in-Some.ensures.answer c.step.ensures.storage.condition c.step.ensures.storage.words
          (view_of c.in-Pending.waiting) _ c.put_at.ensures.leaves c.in-Pending.ensures.outcome;
      answer = λ counts. search rules;
      outside = c.step.ensures.storage.outside;
    }
