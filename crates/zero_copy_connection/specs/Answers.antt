-- What a call on a channel answers, in numbers.
use Rattle.std.specs.Prelude.{ℕ, Bool, Some, None, Ok, Err, Option, Result}

-- a refusal by its number, nothing, a value, yes or no, or a count
pub data Answer : Type 0 where
  refused : ℕ → Answer
  nothing : Answer
  value : ℕ → Answer
  flag : Bool → Answer
  number : ℕ → Answer

abbrev pub optional : Option ℕ → Answer
optional (Some v) = value v
optional None = nothing

-- the answer that a result stands for
abbrev pub answer_of : {A E : Type 0} → (A → Answer) → (E → ℕ) → Result A E → Answer
answer_of f n (Ok a) = f a
answer_of f n (Err e) = refused (n e)

abbrev pub done : Unit {0} → Answer
done u = nothing

-- the first of two reasons to refuse
abbrev pub or_else : Option ℕ → Option ℕ → Option ℕ
or_else (Some n) o = Some n
or_else None o = o

-- what is left: a where nothing is refused, and else b
abbrev pub unless : {A : Type 0} → Option ℕ → A → A → A
unless (Some n) b a = b
unless None b a = a

abbrev pub answer_unless : Option ℕ → Answer → Answer
answer_unless (Some n) a = refused n
answer_unless None a = a
