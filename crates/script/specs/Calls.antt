use Rattle.std.specs.Prelude.{◌≡◌}
use Rattle.script.specs.declared.call.Call.{Call}
use Rattle.script.specs.Grammar.{Reader, Rest, then, alone}

-- the call made of a is f a
abbrev pub Makes1 : {A : Type 0} → (A → Call → Type 0) → (A → Call) → Type 0
Makes1 {A} post f = (a : A) (c : Call) → post a c → c ≡ f a

-- the call made of a and b is f a b
abbrev pub Makes2 : {A B : Type 0} → (A → B → Call → Type 0) → (A → B → Call) → Type 0
Makes2 {A} {B} post f = (a : A) (b : B) (c : Call) → post a b c → c ≡ f a b

-- what p reads, and no more
abbrev pub one_by : {A : Type 0} → Reader A → (A → Call) → Rest Call
one_by p f ws = then (p ws) (λ a. alone (f a.0) a.1)

-- what p and then q reads, and no more
abbrev pub two_by : {A B : Type 0} → Reader A → Reader B → (A → B → Call) → Rest Call
two_by p q f ws = then (p ws) (λ a. then (q a.1) (λ b. alone (f a.0 b.0) b.1))
