use Rattle.std.proofs.Common.{rules, codes, arith, false, ◌≡◌, ◌∙◌}
use Rattle.std.proofs.lemmas.Slice.Eq.{text_from_reads}
use Rattle.script.specs.declared.call.Call.TheVariants as calls
use Rattle.script.specs.Grammar.{is}
use Rattle.script.proofs.Groups.{condition_call_is}
use Rattle.script.proofs.Names.{not_name}
use Rattle.script.proofs.keywords.call.Goals as goal

pub returns-in-length : goal.returns-in-length
returns-in-length c =
    rw (text_from_reads c.args.keyword.now (codes "length") (omega arith) (search rules)) c.alone-in-length.ensures

pub returns-in-words : goal.returns-in-words
returns-in-words c =
    rw (text_from_reads c.args.keyword.now (codes "words") (omega arith) (search rules)) c.alone.ensures

pub returns-in-read : goal.returns-in-read
returns-in-read c =
    rw (text_from_reads c.args.keyword.now (codes "read") (omega arith) (search rules)) (c.one.ensures calls.Read (λ a r h. search rules))

pub returns-in-write : goal.returns-in-write
returns-in-write c =
    rw (text_from_reads c.args.keyword.now (codes "write") (omega arith) (search rules)) (c.two.ensures calls.Write (λ a b r h. search rules))

pub returns-in_default : goal.returns-in_default
returns-in_default c =
    let k = c.args.keyword.now in
    let not1 : is k "length" ≡ false = not_name k _ (λ e. grind (arith, e)) in
    let not2 : is k "words" ≡ false = not_name k _ (λ e. grind (arith, e)) in
    let not3 : is k "read" ≡ false = not_name k _ (λ e. grind (arith, e)) in
    let not4 : is k "write" ≡ false = not_name k _ (λ e. grind (arith, e)) in
    rw (not1, not2, not3, not4) (c.condition_call.ensures ∙ condition_call_is _ _)
