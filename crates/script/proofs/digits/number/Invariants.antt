use Rattle.std.proofs.Common.{◌≡◌, ◌^◌, ◌<◌, drop}
use Rattle.script.specs.Numbers.{number_from}
use Rattle.script.proofs.digits.number.Given as goal

abbrev pub invariant-loop-byte : goal.invariant-loop-byte
invariant-loop-byte l = (l.n < 2 ^ 64) × (number_from l.n (drop l.byte-index l.word) ≡ number_from 0 l.word)
