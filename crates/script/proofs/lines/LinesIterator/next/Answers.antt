use Rattle.std.proofs.Common.{rules, false-eqb}
use Rattle.script.proofs.Cuts.{first_line}
use Rattle.script.proofs.lines.LinesIterator.next.Goals as goal

pub returns-clause-steps : goal.returns-clause-steps
returns-clause-steps c =
    first_line _ _ c.split_before.result.1.now _ (false-eqb _ 0 c.if-is_empty.ensures) c.split_before.ensures.whole c.past_end-self.ensures
    (λ k d l. let h = c.split_before.ensures.front k d l in search rules) (search rules)
