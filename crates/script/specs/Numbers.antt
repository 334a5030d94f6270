use Rattle.std.specs.Prelude.{ℕ, ◌+◌, ◌-◌, ◌*◌, ◌^◌, Bool, cond, ◌&&◌, List, [], ◌∷◌, Some, None, Option, nat_le, nat_lt}

-- '0' to '9'
abbrev pub is_digit : ℕ → Bool
is_digit b = nat_le 48 b && nat_le b 57

-- a number of 64 bits
abbrev pub fitting : ℕ → Option ℕ
fitting n = cond (nat_lt n (2 ^ 64)) (Some n) None

-- the number that digits write after the number n is read
abbrev pub number_from : ℕ → List ℕ → Option ℕ
number_from n [] = fitting n
number_from n (b ∷ bs) = cond (is_digit b) (number_from (n * 10 + (b - 48)) bs) None

-- the number that a word writes: digits, at least one, of a value below 2^64
abbrev pub number_of : List ℕ → Option ℕ
number_of [] = None
number_of (b ∷ bs) = number_from 0 (b ∷ bs)
