-- What is told of admitted and of refused pieces. Assumes nothing.
use Rattle.std.specs.Prelude.{◌≡◌, ℕ, ◌<◌, ◌≤◌, true, false, Some, None, Option, ◌≢◌, refl}
use Rattle.std.proofs.Common.{ap, arith}
use Rattle.std.proofs.lemmas.Bool.Decides.{nat_tests}
use Rattle.refusals.specs.declared.PieceRefusal.{PieceRefusal}
use Rattle.kinds.specs.Kind.{told, between}

pub told_yes : {A : Type 0} (o : Option PieceRefusal) (x y : A) → o ≡ None → told o x y ≡ x
told_yes o x y h = ap (λ r. told r x y) h

pub told_no : {A : Type 0} (o : Option PieceRefusal) (x y : A) → (o ≢ None) → told o x y ≡ y
told_no None x y h = absurd (h refl)
told_no (Some r) x y h = refl

pub told_same : {A : Type 0} (o : Option PieceRefusal) (x : A) → told o x x ≡ x
told_same None x = refl
told_same (Some r) x = refl

-- what lies between two numbers

pub is_between : (low high n : ℕ) → low ≤ n → n ≤ high → between low high n ≡ true
is_between low high n l h = grind (arith, nat_tests)

pub in_between : (low high n : ℕ) → between low high n ≡ true → (low ≤ n) × (n ≤ high)
in_between low high n e = (grind (arith, nat_tests), grind (arith, nat_tests))

pub not_between : (low high n : ℕ) → ((low ≤ n) × (n ≤ high) → ⊥) → between low high n ≡ false
not_between low high n h = grind (arith, nat_tests, h)

pub above : (low high n : ℕ) → high < n → between low high n ≡ false
above low high n h = grind (arith, nat_tests)

pub below : (low high n : ℕ) → n < low → between low high n ≡ false
below low high n h = grind (arith, nat_tests)
