use Rattle.std.proofs.Common.{rules, ◌≡◌, codes, arith}
use Rattle.std.proofs.lemmas.Slice.Eq.{text_from_reads}
use Rattle.script.proofs.layers.next_window.Goals as goal

pub returns-in_err-place : goal.returns-in_err-place
returns-in_err-place c =
    let e : c.in-Some-window.field-0.now ≡ codes "window" = text_from_reads _ _ (omega arith) (search rules) in
    search rules

pub returns-in_err-count : goal.returns-in_err-count
returns-in_err-count c =
    let e : c.in-Some-window.field-0.now ≡ codes "window" = text_from_reads _ _ (omega arith) (search rules) in
    search rules

pub returns : goal.returns
returns c =
    let e : c.in-Some-window.field-0.now ≡ codes "window" = text_from_reads _ _ (omega arith) (search rules) in
    rw (c.in-Some-window.ensures.steps, e, c.in_ok-place.ensures, c.in_ok-count.ensures)
