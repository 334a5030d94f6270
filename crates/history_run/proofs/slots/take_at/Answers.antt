use Rattle.std.proofs.Common.{None}
use Rattle.history_run.proofs.Slotted.{put_is, taken_is, put_past, taken_past}
use Rattle.history_run.proofs.slots.take_at.Goals as goal

pub returns-then-id-waits : goal.returns-then-id-waits
returns-then-id-waits c =
    record {
      leaves = put_is c.args.waits.now c.args.id _ None c.take.ensures.after;
      answer = taken_is c.args.waits.now c.args.id _ _ c.if-id-waits.true c.take.ensures.value;
    }

pub returns-else-id-waits : goal.returns-else-id-waits
returns-else-id-waits c =
    record {
      leaves = put_past c.args.waits.now c.args.id None c.if-id-waits.false;
      answer = taken_past c.args.waits.now c.args.id c.if-id-waits.false;
    }
