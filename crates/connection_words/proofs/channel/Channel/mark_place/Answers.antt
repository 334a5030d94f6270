use Rattle.std.proofs.Common.{◌≡◌, ℕ, ◌+◌, ◌<◌, ◌≤◌, cond, ltb, Some, None, Option, arith}
use Rattle.std.proofs.lemmas.Bool.Decides.{nat_tests}
use Rattle.connection_words.specs.declared.settings.Settings.{Settings}
use Rattle.connection_words.specs.Settings.{segments}
use Rattle.connection_words.specs.Places.{size_at}
use Rattle.connection_words.proofs.Apart.{details_inside, needed_small}
use Rattle.connection_words.proofs.channel.Channel.mark_place.Goals as goal
use Rattle.connection_words.proofs.channel.Channel.mark_place.Goals.{Else-index-self}

found : (s : Settings) (c g p : ℕ) (o : Option ℕ) → o ≡ Some p → o ≡ cond (ltb g (segments s)) (Some (size_at s c g)) None → (g < segments s) × (p ≡ size_at s c g)
found s c g p o e f = (grind (arith, nat_tests), grind (arith, nat_tests))

small : (c : Else-index-self) → c.in_ok-first.first + 1 + c.args.index ≤ 1069760840
small c =
    let s = c.args.self.now.layout.settings in
    let k = c.args.self.now.index in
    let g = c.args.segment in
    let at_size = found s k g c.in_ok-first.first c.size_place.result c.in_ok-first.was c.size_place.ensures in
    omega (arith, details_inside s k g c.args.self.now.inside at_size.0, needed_small s c.args.self.now.layout.limits)

pub overflow_add-result : goal.overflow_add-result
overflow_add-result c = omega (arith, small c)

pub overflow_add-result-2 : goal.overflow_add-result-2
overflow_add-result-2 c = omega (arith, small c)
