use Rattle.std.proofs.Common.{rules, ◌≡◌, codes, arith}
use Rattle.std.proofs.lemmas.Slice.Eq.{text_from_reads}
use Rattle.script.proofs.parsing.parse_line.Goals as goal

pub returns-in-Some-storage : goal.returns-in-Some-storage
returns-in-Some-storage c =
    let e : c.in-Some-storage.field-0.now ≡ codes "storage" = text_from_reads _ _ (omega arith) (search rules) in
    search rules
