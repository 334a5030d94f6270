use Rattle.std.proofs.Common.{rules, codes, arith}
use Rattle.std.proofs.lemmas.Slice.Eq.{text_from_reads}
use Rattle.script.proofs.arguments.StageArgument.parse.Goals as goal

pub returns-in-absent : goal.returns-in-absent
returns-in-absent c = rw (text_from_reads c.args.word.now (codes "absent") (omega arith) (search rules))

pub returns-in-forming : goal.returns-in-forming
returns-in-forming c = rw (text_from_reads c.args.word.now (codes "forming") (omega arith) (search rules))

pub returns-in-ready : goal.returns-in-ready
returns-in-ready c = rw (text_from_reads c.args.word.now (codes "ready") (omega arith) (search rules))
