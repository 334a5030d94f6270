-- A refusal leaves everything as it was.
use Rattle.std.proofs.Common.{◌≡◌, ℕ, Bool, true, false, cond, Some, None, refl}
use Rattle.connection_words.specs.Soundness.{sound}
use Rattle.connection_ports.specs.Laws.{creates, closes, RefusalsLeave}

refused_false : (b : Bool) (n : ℕ) → cond b None (Some 50) ≡ Some n → b ≡ false
refused_false true n e = cc
refused_false false n e = refl

pub refusals_leave : RefusalsLeave
refusals_leave (creates p s state) condition words n e = (rw e, rw e)
refusals_leave (closes p) condition words n e =
    let f = refused_false (sound condition words) n e in
    (rw f, rw f)
