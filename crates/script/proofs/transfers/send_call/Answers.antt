use Rattle.std.proofs.Common.{rules}
use Rattle.script.specs.declared.call.Call.TheVariants as calls
use Rattle.script.proofs.transfers.send_call.Goals as goal

pub returns : goal.returns
returns c =
    rw (c.in_ok-offset.ensures, c.in_ok-segment.ensures) (c.two.ensures (calls.Send c.in_ok-offset.offset c.in_ok-segment.segment) (λ a b r h. search rules))
