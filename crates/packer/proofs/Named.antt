-- Theorems that no function's proof needs today: those that pages named or whose files they named, and, last, those of the chain
-- that the sum of the open costs was for a while. Each follows from what stands.
use Rattle.std.specs.Prelude.{if◌then◌else◌, nat_eq, slice_index_or}
use Rattle.std.proofs.Common.{◌≡◌, ℕ, ◌+◌, ◌-◌, ◌≤◌, Bool, true, false, not, cond, List, [], ◌∷◌, ◌++◌, length, take, drop, set, sum_by, sym, refl, ap, ◌∙◌, arith, length-set}
use Rattle.std.specs.List.{range_with_len, filter}
use Rattle.std.proofs.lemmas.List.Sums.{sum_by-cons}
use Rattle.std.proofs.lemmas.List.Filters.{length-filter_both}
use Rattle.std.proofs.lemmas.List.FromFn.{length-range_with_len}
use Rattle.std.proofs.lemmas.Grind.{common_steps}
use Rattle.kinds.specs.Kind.{Meaning, Lawful, between}
use Rattle.kinds.specs.Told.{is_between}
use Rattle.ledger.specs.declared.Ledger.{Ledger}
use Rattle.ledger.specs.declared.Report.{Report}
use Rattle.ledger.specs.Rules.{nothing, open_cost}
use Rattle.ledger.specs.Rules.{report as told_by}
use Rattle.ledger.specs.Season.{LeastFloor}
use Rattle.ledger.proofs.Floors.{floor_covers, floor_least}
use Rattle.ledger.proofs.Uptos.{sum_same}
use Rattle.ledger.proofs.Sound.{open_cost_in}
use Rattle.packer.proofs.Sums.{sum_range}
use Rattle.packer.specs.Lists.{written}

-- a report's floor is the least that covers its weight
module _ (m : Meaning) (law : Lawful m) (s : Ledger) (r : Report) (is : r ≡ told_by m s) where
  pub floor_is : LeastFloor m r
  floor_is = rw is (floor_covers m.ceiling s.weight law.ceiling_range.0, λ k. floor_least m.ceiling s.weight k law.ceiling_range.0)

-- lines written into a list's memory
module _ {T : Type 0} where
  pub length_written : (memory : List T) (used : ℕ) (ls : List T) → length (written memory used ls) ≡ length memory
  length_written memory used [] = refl
  length_written memory used (l ∷ ls) = length_written (set memory used l) (used + 1) ls ∙ length-set memory used l

  pub take_written : (memory : List T) (used : ℕ) (ls : List T) → used + length ls ≤ length memory → take (used + length ls) (written memory used ls) ≡ take used memory ++ ls
  take_written memory used [] h = grind (arith, common_steps)
  take_written memory used (l ∷ ls) h = grind (arith, common_steps, take_written (set memory used l) (used + 1) ls)

  pub drop_written : (memory : List T) (used : ℕ) (ls : List T) → drop (used + length ls) (written memory used ls) ≡ drop (used + length ls) memory
  drop_written memory used [] = refl
  drop_written memory used (l ∷ ls) = grind (arith, common_steps, drop_written (set memory used l) (used + 1) ls)

-- what a list shows after, by what its memory holds after
module _ {T : Type 0} (memory memory' : List T) (used used' : ℕ) (ls : List T) (long : used' ≡ used + length ls) (same : memory' ≡ written memory used ls) where
  pub lines_after : used' ≤ length memory' → take used' memory' ≡ take used memory ++ ls
  lines_after fits = rw (same, long) (take_written memory used ls (omega (arith, long, fits, ap length same, length_written memory used ls)))

  pub rest_after : drop used' memory' ≡ drop used' memory
  rest_after = rw (same, long) (drop_written memory used ls)

-- a container stands open in the class, as the code asks
abbrev pub is_open : Ledger → ℕ → Bool
is_open s c = not (nat_eq (if between 1 104 c then slice_index_or s.bank.slots (c - 1) nothing else nothing).count 0)

sum_kept : (f : ℕ → ℕ) (b : Bool) (x : ℕ) (ys : List ℕ) → sum_by f (cond b (x ∷ ys) ys) ≡ cond b (f x) 0 + sum_by f ys
sum_kept f true x ys = sum_by-cons f x ys
sum_kept f false x ys = omega arith

sum_filter : (p : ℕ → Bool) (f : ℕ → ℕ) (xs : List ℕ) → sum_by f (filter p xs) ≡ sum_by (λ x. cond (p x) (f x) 0) xs
sum_filter p f [] = refl
sum_filter p f (x ∷ xs) =
    let g : ℕ → ℕ = λ y. cond (p y) (f y) 0 in
    sum_kept f (p x) x (filter p xs) ∙ ap (λ n. g x + n) (sum_filter p f xs) ∙ sym (sum_by-cons g x xs)

pub open_same : (m : Meaning) (s : Ledger) → sum_by m.cost (filter (is_open s) (range_with_len 1 104)) ≡ open_cost m s
open_same m s =
    sum_filter (is_open s) m.cost (range_with_len 1 104)
    ∙ sum_range (λ c. cond (is_open s c) (m.cost c) 0) 104
    ∙ sum_same (λ c. cond (is_open s c) (m.cost c) 0) (open_cost_in m s) 104 (λ c low high. rw (is_between 1 104 c low high) refl)

pub few_open : (s : Ledger) → length (filter (is_open s) (range_with_len 1 104)) ≤ 104
few_open s = omega (arith, length-filter_both (is_open s) (λ c. not (is_open s c)) (λ c. refl) (range_with_len 1 104), length-range_with_len 1 104)
