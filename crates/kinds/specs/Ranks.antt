-- The rank of a height: the least power of two that is at least as much. Assumes nothing.
use Rattle.std.specs.Prelude.{◌≡◌, ℕ, zero, suc, ◌+◌, ◌-◌, ◌*◌, ◌^◌, ◌≤◌, refl}
use Rattle.std.proofs.Common.{ap, inl, inr, arith, pow_mono}
use Rattle.std.proofs.Math.Nat.{pow-succ'}
use Rattle.std.specs.Int.Count.{count_leading_zeros}
use Rattle.std.proofs.lemmas.Nat.{leading_length}
use Rattle.std.proofs.lemmas.Bool.{cases_lt}
use Rattle.std.proofs.lemmas.Bool.Decides.{nat_tests}
use Rattle.kinds.specs.Strips.{rank_from, rank}

from_most : (n g b : ℕ) → rank_from n g b ≤ g + n
from_most zero g b = omega arith
from_most (suc n) g b = grind (arith, nat_tests, from_most n (g + 1) b)

from_enough : (n g b : ℕ) → b ≤ 2 ^ (g + n) → b ≤ 2 ^ rank_from n g b
from_enough zero g b h = omega (arith, ap (λ k. 2 ^ k) (let e : g + 0 ≡ g = omega arith in e))
from_enough (suc n) g b h =
    let i : g + suc n ≡ g + 1 + n = omega arith in
    let rest : b ≤ 2 ^ rank_from n (g + 1) b = from_enough n (g + 1) b (omega (arith, ap (λ k. 2 ^ k) i)) in
    grind (arith, nat_tests)

from_least : (n g b k : ℕ) → g ≤ k → b ≤ 2 ^ k → rank_from n g b ≤ k
from_least zero g b k l h = l
from_least (suc n) g b k l h = grind (arith, nat_tests, from_least n (g + 1) b k, pow_mono {i = k} {j = g})

pub rank_most : (b : ℕ) → rank b ≤ 12
unfolding rank
rank_most b = omega (arith, from_most 12 0 b)

pub rank_enough : (b : ℕ) → b ≤ 4096 → b ≤ 2 ^ rank b
unfolding rank
rank_enough b h = from_enough 12 0 b h

pub rank_least : (b k : ℕ) → b ≤ 2 ^ k → rank b ≤ k
unfolding rank
rank_least b k h = from_least 12 0 b k (omega arith) h

-- what is at least one half of the power below is at most twice the height
pub rank_half : (b : ℕ) → 1 ≤ b → 2 ^ rank b ≤ 2 * b
rank_half b s = half (rank b) refl
  where
    half : (r : ℕ) → r ≡ rank b → 2 ^ r ≤ 2 * b
    half zero e = omega arith
    half (suc r) e =
        elim (cases_lt (2 ^ r) b) [
          | inl l ↦ omega (arith, pow-succ' 2 r)
          | inr l ↦ absurd (omega (arith, rank_least b r l))
        ]

-- the number of binary digits of b - 1
pub rank_digits : (b : ℕ) → 1 ≤ b → b ≤ 4096 → 32 - count_leading_zeros 32 (b - 1) ≡ rank b
rank_digits b s l =
    let d = leading_length 32 (b - 1) (omega arith) in
    let most : rank b ≤ d.0 = rank_least b d.0 (omega (arith, d.2)) in
    let least : d.0 ≤ rank b = elim (cases_lt (rank b) d.0) [
      | inl h ↦ absurd (omega (arith, rank_enough b l, d.3, pow_mono {i = suc (rank b)} {j = d.0} h, pow-succ' 2 (rank b)))
      | inr h ↦ h
    ] in
    omega (arith, d.1)
