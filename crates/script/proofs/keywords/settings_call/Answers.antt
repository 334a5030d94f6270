use Rattle.std.proofs.Common.{rules}
use Rattle.script.specs.declared.call.Call.TheVariants as calls
use Rattle.script.proofs.keywords.settings_call.Goals as goal

pub returns : goal.returns
returns c = rw c.in_ok-settings.ensures (c.one.ensures (calls.Settings c.in_ok-settings.settings) (λ a r h. search rules))
