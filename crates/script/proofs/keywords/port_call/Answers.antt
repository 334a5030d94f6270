use Rattle.std.proofs.Common.{rules, codes, arith, false, ◌≡◌, ◌∙◌}
use Rattle.std.proofs.lemmas.Slice.Eq.{text_from_reads}
use Rattle.script.specs.declared.call.Call.TheVariants as calls
use Rattle.script.specs.Grammar.{is}
use Rattle.script.proofs.Groups.{transfer_call_is}
use Rattle.script.proofs.Names.{not_name}
use Rattle.script.proofs.keywords.port_call.Goals as goal

pub returns-in-settings : goal.returns-in-settings
returns-in-settings c =
    rw (text_from_reads c.args.keyword.now (codes "settings") (omega arith) (search rules)) c.settings_call.ensures

pub returns-in-create : goal.returns-in-create
returns-in-create c =
    rw (text_from_reads c.args.keyword.now (codes "create") (omega arith) (search rules)) (c.one-in-create.ensures calls.Create (λ a r h. search rules))

pub returns-in-close : goal.returns-in-close
returns-in-close c =
    rw (text_from_reads c.args.keyword.now (codes "close") (omega arith) (search rules)) (c.one.ensures calls.Close (λ a r h. search rules))

pub returns-in-counters : goal.returns-in-counters
returns-in-counters c =
    rw (text_from_reads c.args.keyword.now (codes "counters") (omega arith) (search rules)) c.alone.ensures

pub returns-in_default : goal.returns-in_default
returns-in_default c =
    let k = c.args.keyword.now in
    let not1 : is k "settings" ≡ false = not_name k _ (λ e. grind (arith, e)) in
    let not2 : is k "create" ≡ false = not_name k _ (λ e. grind (arith, e)) in
    let not3 : is k "close" ≡ false = not_name k _ (λ e. grind (arith, e)) in
    let not4 : is k "counters" ≡ false = not_name k _ (λ e. grind (arith, e)) in
    rw (not1, not2, not3, not4) (c.transfer_call.ensures ∙ transfer_call_is _ _)
