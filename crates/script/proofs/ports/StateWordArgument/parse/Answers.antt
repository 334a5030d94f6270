use Rattle.std.proofs.Common.{rules, codes, arith}
use Rattle.std.proofs.lemmas.Slice.Eq.{text_from_reads}
use Rattle.script.proofs.ports.StateWordArgument.parse.Goals as goal

pub returns-in-closed : goal.returns-in-closed
returns-in-closed c = rw (text_from_reads c.args.word.now (codes "closed") (omega arith) (search rules))
