use Rattle.std.proofs.Common.{rules, ◌≡◌, codes, arith}
use Rattle.std.proofs.lemmas.Slice.Eq.{text_from_reads}
use Rattle.script.proofs.layers.next_swapped.Goals as goal

pub returns : goal.returns
returns c =
    let e : c.in-Some-swapped.field-0.now ≡ codes "swapped" = text_from_reads _ _ (omega arith) (search rules) in
    rw (c.in-Some-swapped.ensures.steps, e)
