-- The figures of a class number k: L, u and p. Assumes nothing.
use Rattle.std.specs.Prelude.{ℕ, zero, suc, ◌-◌, ◌*◌, ◌/◌, ◌%◌, cond, List, [], ◌∷◌, ◌==◌, slice_index}

-- the greatest common divisor, by at most n of Euclid's steps
abbrev pub gcd_in : ℕ → ℕ → ℕ → ℕ
gcd_in zero a b = a
gcd_in (suc n) a b = cond (b == 0) a (gcd_in n b (a % b))

-- the least common multiple of two numbers
abbrev pub lcm : ℕ → ℕ → ℕ
lcm a b = a * b / gcd_in (suc b) a b

-- the least common multiple of 1 to n
abbrev pub lcm_upto : ℕ → ℕ
lcm_upto zero = 1
lcm_upto (suc n) = lcm (lcm_upto n) (suc n)

-- L: the least common multiple of 1 to k - 1
abbrev pub multiple : ℕ → ℕ
multiple k = lcm_upto (k - 1)

-- L for k from 2 to 12, as a table; the code that reads it proves that each is the multiple
abbrev pub listed_multiples : List ℕ
listed_multiples = 1 ∷ 2 ∷ 6 ∷ 12 ∷ 60 ∷ 60 ∷ 420 ∷ 840 ∷ 2520 ∷ 2520 ∷ 27720 ∷ []

-- u: what the unit is for each unit of capacity
abbrev pub unit_factor : ℕ → ℕ
unit_factor k = (k - 1) * multiple k

-- p: what the ceiling is for each unit of capacity, for k from 2 to 12
abbrev pub ceiling_factors : List ℕ
ceiling_factors = 2 ∷ 7 ∷ 31 ∷ 82 ∷ 510 ∷ 610 ∷ 4980 ∷ 11380 ∷ 38400 ∷ 42660 ∷ 516120 ∷ []

-- p for one k
abbrev pub ceiling_factor : ℕ → ℕ
ceiling_factor k = slice_index ceiling_factors (k - 2)
