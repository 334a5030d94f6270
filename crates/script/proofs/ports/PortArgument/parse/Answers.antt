use Rattle.std.proofs.Common.{rules, codes, arith}
use Rattle.std.proofs.lemmas.Slice.Eq.{text_from_reads}
use Rattle.script.proofs.ports.PortArgument.parse.Goals as goal

pub returns-in-sender : goal.returns-in-sender
returns-in-sender c = rw (text_from_reads c.args.word.now (codes "sender") (omega arith) (search rules))

pub returns-in-receiver : goal.returns-in-receiver
returns-in-receiver c = rw (text_from_reads c.args.word.now (codes "receiver") (omega arith) (search rules))
