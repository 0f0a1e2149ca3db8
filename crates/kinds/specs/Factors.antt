-- The figures of each class number, 2 to 12, by computed tests. Assumes nothing.
use Rattle.std.proofs.Common.{◌≡◌, ℕ, zero, suc, ◌+◌, ◌-◌, ◌*◌, ◌%◌, ◌<◌, ◌≤◌, min, Bool, true, not, ◌&&◌, ◌||◌, eqb, leb, get_or, refl, inl, inr, arith, Decides}
use Rattle.std.proofs.lemmas.Bool.Decides.{Decides-below_and}
use Rattle.std.proofs.lemmas.Bool.{leb-true, eqb-true, eq-eqb, or_cases, or_left, or_right, not-true, both_ways, cases_lt}
use Rattle.kinds.specs.Figures.{multiple, listed_multiples, unit_factor, ceiling_factor}

-- a test of each number below n
abbrev every : (ℕ → Bool) → ℕ → Bool
every test zero = true
every test (suc n) = test n && every test n

every_decides : (test : ℕ → Bool) (n : ℕ) → Decides (every test n) ((i : ℕ) → i < n → test i ≡ true)
every_decides test = Decides-below_and test (λ i. test i ≡ true) (every test) (λ i. (λ e. e, λ e. e)) refl (λ n. refl)

-- its two directions
every_below : (test : ℕ → Bool) (n : ℕ) → every test n ≡ true → (i : ℕ) → i < n → test i ≡ true
every_below test n = (every_decides test n).0

every_from : (test : ℕ → Bool) (n : ℕ) → ((i : ℕ) → i < n → test i ≡ true) → every test n ≡ true
every_from test n = (every_decides test n).1

-- a test of each class number, and of each class below the last
module _ (test : ℕ → Bool) where
  for_each : every (λ n. leb n 1 || test n) 13 ≡ true → (k : ℕ) → 2 ≤ k → k ≤ 12 → test k ≡ true
  for_each e k s l = elim (or_cases (leb k 1) (test k) (every_below (λ n. leb n 1 || test n) 13 e k (omega arith))) [ inl z ↦ absurd (omega (arith, leb-true k 1 z)) | inr t ↦ t ]

  below_each : (k : ℕ) → every (λ j. eqb j 0 || test j) k ≡ true → (j : ℕ) → 1 ≤ j → j < k → test j ≡ true
  below_each k e j s l = elim (or_cases (eqb j 0) (test j) (every_below (λ j. eqb j 0 || test j) k e j l)) [ inl z ↦ absurd (omega (arith, eqb-true j 0 z)) | inr t ↦ t ]

le_each : (f g : ℕ → ℕ) → every (λ n. leb n 1 || leb (f n) (g n)) 13 ≡ true → (k : ℕ) → 2 ≤ k → k ≤ 12 → f k ≤ g k
le_each f g e k s l = leb-true (f k) (g k) (for_each (λ n. leb (f n) (g n)) e k s l)

-- n is a multiple of each of 1 to k - 1
abbrev common : ℕ → ℕ → Bool
common k n = every (λ j. eqb j 0 || eqb (n % j) 0) k

common_each : (k n : ℕ) → common k n ≡ true → (j : ℕ) → 1 ≤ j → j < k → n % j ≡ 0
common_each k n e j s l = eqb-true (n % j) 0 (below_each (λ j. eqb (n % j) 0) k e j s l)

common_from : (k n : ℕ) → ((j : ℕ) → 1 ≤ j → j < k → n % j ≡ 0) → common k n ≡ true
common_from k n h =
    every_from _ k (λ j l. elim (cases_lt 0 j) [ inl s ↦ or_right (eqb j 0) _ (eq-eqb (n % j) 0 (h j s l)) | inr z ↦ or_left (eqb j 0) _ (eq-eqb j 0 (omega arith)) ])

-- what the class number k asks of L, u and p
pub record Figures (k L u p : ℕ) : Type 0 where
  pub many : 2 ≤ k
  pub few : k ≤ 12
  pub lcm_some : 1 ≤ L
  pub lasts : u + L ≡ k * L
  pub unit_most : u ≤ 304920
  pub factor_most : p ≤ 516120
  pub whole : (j : ℕ) → 1 ≤ j → j < k → u % j ≡ 0
  -- no class 1; class 1 and no class 2; both and no class 6; all three
  pub no_first : 42 * (u * (min 2 (k - 1) + 1)) ≤ 42 * p * (1 * min 2 (k - 1))
  pub no_second : 42 * (u * (min 3 (k - 1) + 1)) ≤ (42 * p - 42 * u) * (2 * min 3 (k - 1))
  pub no_sixth : 42 * (u * (min 7 (k - 1) + 1)) ≤ (42 * p - 63 * u) * (6 * min 7 (k - 1))
  pub all_three : 70 * u + k * L ≤ 42 * p

pub figures : (k : ℕ) → 2 ≤ k → k ≤ 12 → Figures k (multiple k) (unit_factor k) (ceiling_factor k)
figures k many few = record {
  many = many;
  few = few;
  lcm_some = le_each (λ n. 1) multiple refl k many few;
  lasts = eqb-true (unit_factor k + multiple k) (k * multiple k) (for_each (λ n. eqb (unit_factor n + multiple n) (n * multiple n)) refl k many few);
  unit_most = le_each unit_factor (λ n. 304920) refl k many few;
  factor_most = le_each ceiling_factor (λ n. 516120) refl k many few;
  whole = common_each k (unit_factor k) (for_each (λ n. common n (unit_factor n)) refl k many few);
  no_first = le_each (λ n. 42 * (unit_factor n * (min 2 (n - 1) + 1))) (λ n. 42 * ceiling_factor n * (1 * min 2 (n - 1))) refl k many few;
  no_second = le_each (λ n. 42 * (unit_factor n * (min 3 (n - 1) + 1))) (λ n. (42 * ceiling_factor n - 42 * unit_factor n) * (2 * min 3 (n - 1))) refl k many few;
  no_sixth = le_each (λ n. 42 * (unit_factor n * (min 7 (n - 1) + 1))) (λ n. (42 * ceiling_factor n - 63 * unit_factor n) * (6 * min 7 (n - 1))) refl k many few;
  all_three = le_each (λ n. 70 * unit_factor n + n * multiple n) (λ n. 42 * ceiling_factor n) refl k many few;
}

-- L by what it is: a multiple of each of 1 to k - 1, and the least
pub multiple_common : (k : ℕ) → 2 ≤ k → k ≤ 12 → (j : ℕ) → 1 ≤ j → j < k → multiple k % j ≡ 0
multiple_common k many few = common_each k (multiple k) (for_each (λ n. common n (multiple n)) refl k many few)

pub multiple_least : (k : ℕ) → 2 ≤ k → k ≤ 12 → (n : ℕ) → 1 ≤ n → ((j : ℕ) → 1 ≤ j → j < k → n % j ≡ 0) → multiple k ≤ n
multiple_least k many few n s h =
    elim (cases_lt n (multiple k)) [
      | inl l ↦ absurd (both_ways (common k n) (not-true (common k n) (below_each (λ i. not (common k i)) (multiple k) (for_each (λ m. every (λ i. eqb i 0 || not (common m i)) (multiple m)) refl k many few) n s l)) (common_from k n h))
      | inr l ↦ l
    ]

pub multiple_listed : (k : ℕ) → 2 ≤ k → k ≤ 12 → get_or listed_multiples (k - 2) 0 ≡ multiple k
multiple_listed k many few = eqb-true _ _ (for_each (λ n. eqb (get_or listed_multiples (n - 2) 0) (multiple n)) refl k many few)

pub multiple_most : (k : ℕ) → 2 ≤ k → k ≤ 12 → multiple k ≤ 27720
multiple_most = le_each multiple (λ n. 27720) refl
