use Rattle.std.proofs.Common.{None, sym, ◌∙◌, false-eqb}
use Rattle.script.proofs.Steps.{digit_more, number_of_some}
use Rattle.script.proofs.digits.number.Goals as goal

pub returns-in_err-n : goal.returns-in_err-n
returns-in_err-n c =
    let stop = digit_more c.loop-byte.n c.args.word.now c.loop-byte.byte-index None c.loop-byte-test.true (sym c.in_err-n.was ∙ c.with_digit.ensures) in
    c.from_residual.ensures ∙ sym (number_of_some c.args.word.now (false-eqb _ 0 c.if-is_empty.ensures) ∙ sym c.loop-byte.invariant.1 ∙ stop)
