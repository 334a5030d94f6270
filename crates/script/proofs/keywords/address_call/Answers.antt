use Rattle.std.proofs.Common.{rules, codes, arith, false, ◌≡◌, ◌∙◌}
use Rattle.std.proofs.lemmas.Slice.Eq.{text_from_reads}
use Rattle.script.specs.declared.call.Call.TheVariants as calls
use Rattle.script.specs.Grammar.{is}
use Rattle.script.proofs.Groups.{port_call_is}
use Rattle.script.proofs.Names.{not_name}
use Rattle.script.proofs.keywords.address_call.Goals as goal

pub returns-in-offset : goal.returns-in-offset
returns-in-offset c =
    rw (text_from_reads c.args.keyword.now (codes "offset") (omega arith) (search rules)) (c.one.ensures calls.Offset (λ a r h. search rules))

pub returns-in-value : goal.returns-in-value
returns-in-value c =
    rw (text_from_reads c.args.keyword.now (codes "value") (omega arith) (search rules)) (c.two.ensures calls.Value (λ a b r h. search rules))

pub returns-in_default : goal.returns-in_default
returns-in_default c =
    let k = c.args.keyword.now in
    let not1 : is k "offset" ≡ false = not_name k _ (λ e. grind (arith, e)) in
    let not2 : is k "value" ≡ false = not_name k _ (λ e. grind (arith, e)) in
    rw (not1, not2) (c.port_call.ensures ∙ port_call_is _ _)
