use Rattle.std.proofs.Common.{Some, refl, arith}
use Rattle.std.proofs.lemmas.Bool.Decides.{nat_tests}
use Rattle.std.proofs.lemmas.List.{length-map}
use Rattle.blocking_send.specs.Seen.{view_of}
use Rattle.history_run.proofs.Slotted.{put_is, put_past}
use Rattle.history_run.proofs.slots.put_at.Goals as goal

pub returns-then-id-waits : goal.returns-then-id-waits
returns-then-id-waits c =
    record {
      leaves = put_past c.args.waits.now c.args.id (Some (view_of c.args.waiting)) c.if-id-waits.true;
      answer = simp length-map (grind (arith, nat_tests));
    }

pub returns : goal.returns
returns c =
    record {
      leaves = put_is c.args.waits.now c.args.id _ (Some c.args.waiting) refl;
      answer = simp length-map (grind (arith, nat_tests));
    }
