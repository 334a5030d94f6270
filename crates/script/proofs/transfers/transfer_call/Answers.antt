use Rattle.std.proofs.Common.{rules, codes, arith}
use Rattle.std.proofs.lemmas.Slice.Eq.{text_from_reads}
use Rattle.script.specs.declared.call.Call.TheVariants as calls
use Rattle.script.proofs.transfers.transfer_call.Goals as goal

pub returns-in-receive : goal.returns-in-receive
returns-in-receive c =
    rw (text_from_reads c.args.keyword.now (codes "receive") (omega arith) (search rules)) (c.one.ensures calls.Receive (λ a r h. search rules))

pub returns-in-release : goal.returns-in-release
returns-in-release c =
    rw (text_from_reads c.args.keyword.now (codes "release") (omega arith) (search rules)) c.release_call.ensures

pub returns-in-reclaim : goal.returns-in-reclaim
returns-in-reclaim c =
    rw (text_from_reads c.args.keyword.now (codes "reclaim") (omega arith) (search rules)) (c.one-in-reclaim.ensures calls.Reclaim (λ a r h. search rules))

pub returns-in-104 : goal.returns-in-104
returns-in-104 c =
    rw (text_from_reads c.args.keyword.now (codes "has_data") (omega arith) (search rules)) (c.one-in-104.ensures calls.HasData (λ a r h. search rules))

pub returns-in-98 : goal.returns-in-98
returns-in-98 c =
    rw (text_from_reads c.args.keyword.now (codes "borrow_count") (omega arith) (search rules)) (c.one-in-98.ensures calls.BorrowCount (λ a r h. search rules))
