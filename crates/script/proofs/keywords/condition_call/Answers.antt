use Rattle.std.proofs.Common.{rules, codes, arith, false, ◌≡◌, ◌∙◌}
use Rattle.std.proofs.lemmas.Slice.Eq.{text_from_reads}
use Rattle.script.specs.declared.call.Call.TheVariants as calls
use Rattle.script.specs.Grammar.{is}
use Rattle.script.proofs.Groups.{address_call_is}
use Rattle.script.proofs.Names.{not_name}
use Rattle.script.proofs.keywords.condition_call.Goals as goal

pub returns-in-condition : goal.returns-in-condition
returns-in-condition c =
    rw (text_from_reads c.args.keyword.now (codes "condition") (omega arith) (search rules)) c.alone.ensures

pub returns-in-115 : goal.returns-in-115
returns-in-115 c =
    rw (text_from_reads c.args.keyword.now (codes "set_condition") (omega arith) (search rules)) (c.one-in-115.ensures calls.SetCondition (λ a r h. search rules))

pub returns-in-code : goal.returns-in-code
returns-in-code c =
    rw (text_from_reads c.args.keyword.now (codes "code") (omega arith) (search rules)) (c.one.ensures calls.Code (λ a r h. search rules))

pub returns-in_default : goal.returns-in_default
returns-in_default c =
    let k = c.args.keyword.now in
    let not1 : is k "condition" ≡ false = not_name k _ (λ e. grind (arith, e)) in
    let not2 : is k "set_condition" ≡ false = not_name k _ (λ e. grind (arith, e)) in
    let not3 : is k "code" ≡ false = not_name k _ (λ e. grind (arith, e)) in
    rw (not1, not2, not3) (c.address_call.ensures ∙ address_call_is _ _)
