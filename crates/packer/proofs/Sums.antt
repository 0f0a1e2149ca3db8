-- What is added up over the classes. Assumes nothing.
use Rattle.std.specs.Prelude.{if◌then◌else◌, slice_index_or}
use Rattle.std.proofs.Common.{◌≡◌, ℕ, zero, suc, ◌+◌, ◌-◌, ◌^◌, ◌<◌, ◌≤◌, cond, ◌⊎◌, List, [], ◌∷◌, ◌++◌, length, get_or, sum_by, sym, refl, ap, ◌∙◌, inl, inr, add-one, mul-le-mul_right, one-mul, arith}
use Rattle.std.specs.List.{range_with_len}
use Rattle.std.proofs.lemmas.List.Sums.{sum_by-le, sum_by_push}
use Rattle.std.proofs.lemmas.List.FromFn.{length-range_with_len}
use Rattle.std.proofs.lemmas.Bool.{cases_lt, cases_Bool}
use Rattle.std.proofs.lemmas.Bool.Decides.{nat_tests}
use Rattle.kinds.specs.Kind.{Meaning, Lawful, ClassOf, between}
use Rattle.kinds.specs.Told.{is_between}
use Rattle.ledger.specs.declared.Ledger.{Ledger}
use Rattle.ledger.specs.Rules.{upto, nothing, stands, open_in, open_cost}
use Rattle.ledger.proofs.Uptos.{sum_past}
use Rattle.ledger.proofs.Sound.{open_cost_in}

range_more : (a n : ℕ) → range_with_len a (suc n) ≡ range_with_len a n ++ ((a + n) ∷ [])
range_more a zero = ap (λ k. k ∷ []) (omega arith)
range_more a (suc n) =
    ap (λ l. a ∷ l) (range_more (a + 1) n) ∙ (let e : a + 1 + n ≡ a + suc n = omega arith in ap (λ k. a ∷ (range_with_len (a + 1) n ++ (k ∷ []))) e)

range_upto : (n : ℕ) → range_with_len 1 n ≡ upto n
range_upto zero = refl
range_upto (suc n) = range_more 1 n ∙ (let e : 1 + n ≡ suc n = omega arith in ap (λ k. range_with_len 1 n ++ (k ∷ [])) e) ∙ ap (λ l. l ++ (suc n ∷ [])) (range_upto n)

-- the sum over a range is the sum over the classes
pub sum_range : (f : ℕ → ℕ) (n : ℕ) → sum_by f (range_with_len 1 n) ≡ sum_by f (upto n)
sum_range f n = ap (sum_by f) (range_upto n)

-- a sum of few small terms is small
pub sum_fits : (f : ℕ → ℕ) (xs : List ℕ) → length xs ≤ 104 → ((c : ℕ) → f c ≤ 2 ^ 44) → sum_by f xs < 2 ^ 64
sum_fits f xs few each = omega (arith, sum_by-le f (2 ^ 44) xs (λ k d h. each _), mul-le-mul_right (2 ^ 44) few)

class_or_not : (m : Meaning) (c : ℕ) → ClassOf m c ⊎ (ClassOf m c → ⊥)
class_or_not m c =
    elim (cases_lt 0 c) [
      | inl a ↦ elim (cases_lt m.classes c) [ inl b ↦ inr (λ k. omega (arith, k.1)) | inr b ↦ inl (a, b) ]
      | inr a ↦ inr (λ k. omega (arith, k.0))
    ]

pub any_cost : (m : Meaning) → Lawful m → (c : ℕ) → m.cost c ≤ 2 ^ 44
any_cost m law c =
    elim (class_or_not m c) [
      | inl k ↦ omega (arith, (law.cost_range c k).1, mul-le-mul_right {m = 1} {n = m.unit} (m.cost c) law.unit_some, one-mul (m.cost c))
      | inr n ↦ omega (arith, (law.no_class_tells_nothing c n).0)
    ]

pub any_standing : (m : Meaning) → Lawful m → (c : ℕ) → m.standing c ≤ 2 ^ 44
any_standing m law c =
    elim (class_or_not m c) [
      | inl k ↦ elim (law.standing_none_or_cost c k) [ inl z ↦ omega (arith, z) | inr e ↦ omega (arith, e, any_cost m law c) ]
      | inr n ↦ omega (arith, (law.no_class_tells_nothing c n).1)
    ]

-- a sum over the classes, one class more
pub sum_next : (f : ℕ → ℕ) (i : ℕ) → sum_by f (upto (i + 1)) ≡ sum_by f (upto i) + f (i + 1)
sum_next f i = rw add-one (sum_by_push f (upto i) (suc i))

-- one class more
pub cost_next : (m : Meaning) (s : Ledger) (i : ℕ) → sum_by (open_cost_in m s) (upto (i + 1)) ≡ sum_by (open_cost_in m s) (upto i) + cond (stands (get_or s.bank.slots i nothing)) (m.cost (i + 1)) 0
cost_next m s i =
    sum_next (open_cost_in m s) i
    ∙ (let e : i + 1 - 1 ≡ i = omega arith in ap (λ n. sum_by (open_cost_in m s) (upto i) + cond (stands (get_or s.bank.slots n nothing)) (m.cost (i + 1)) 0) e)

pub next_yes : (m : Meaning) (s : Ledger) (i : ℕ) → ((get_or s.bank.slots i nothing).count ≡ 0 → ⊥) → sum_by (open_cost_in m s) (upto (i + 1)) ≡ sum_by (open_cost_in m s) (upto i) + m.cost (i + 1)
next_yes m s i ne = grind (arith, nat_tests, cost_next m s i)

pub next_no : (m : Meaning) (s : Ledger) (i : ℕ) → (get_or s.bank.slots i nothing).count ≡ 0 → sum_by (open_cost_in m s) (upto (i + 1)) ≡ sum_by (open_cost_in m s) (upto i)
next_no m s i e = grind (arith, nat_tests, cost_next m s i)

-- what the bank tells of a class is its slot
pub slot_at : (s : Ledger) (i : ℕ) → i + 1 ≤ 104 → (if between 1 104 (i + 1) then slice_index_or s.bank.slots (i + 1 - 1) nothing else nothing) ≡ get_or s.bank.slots i nothing
slot_at s i h =
    let e : i + 1 - 1 ≡ i = omega arith in
    rw (is_between 1 104 (i + 1) (omega arith) h) (ap (λ k. get_or s.bank.slots k nothing) e)

-- past the kind's classes nothing costs
nothing_past : (m : Meaning) → Lawful m → (s : Ledger) → (c : ℕ) → m.classes < c → open_cost_in m s c ≡ 0
nothing_past m law s c past =
    let none : m.cost c ≡ 0 = (law.no_class_tells_nothing c (λ k. omega (arith, k.1))).0 in
    elim (cases_Bool (stands (open_in s c))) [ inl e ↦ rw e none | inr e ↦ rw e refl ]

-- so the kind's classes are enough
pub open_upto : (m : Meaning) → Lawful m → (s : Ledger) → sum_by (open_cost_in m s) (upto m.classes) ≡ open_cost m s
open_upto m law s = sym (sum_past (open_cost_in m s) m.classes 104 law.few_classes (nothing_past m law s))

pub few_classes : (m : Meaning) → Lawful m → length (range_with_len 1 m.classes) ≤ 104
few_classes m law = rw (length-range_with_len 1 m.classes) law.few_classes
