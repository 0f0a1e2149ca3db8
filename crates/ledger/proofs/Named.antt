-- Theorems that no proof needs today, and that pages named: the library has all but the first. Assumes nothing.
use Rattle.std.proofs.Common.{◌≡◌, ℕ, ◌+◌, List, [], ◌∷◌, ◌++◌, map, sum_by, flat_map, IsPermutation}
use Rattle.std.proofs.lemmas.List.Folds.{fold-map, flat_map-map}
use Rattle.std.proofs.lemmas.List.Sorted.{IsPermutation-middle, IsPermutation-append_left}
use Rattle.ledger.specs.Rules.{Call}
use Rattle.ledger.specs.Season.{placed, placed_by}
use Rattle.ledger.proofs.Groups.{placed_then}

-- what one call more places
pub placed_push : (h : List Call) (c : Call) → placed (h ++ (c ∷ [])) ≡ placed h ++ placed_by c
placed_push = placed_then

-- sums and joined lists over a list of images
module _ {X : Type 0} where
  pub sum_over_map : {Y : Type 0} (g : Y → ℕ) (f : X → Y) (xs : List X) → sum_by g (map f xs) ≡ sum_by (λ x. g (f x)) xs
  sum_over_map g f xs = fold-map (λ n y. n + g y) f 0 xs

  pub joined_over_map : {Y A : Type 0} (g : Y → List A) (f : X → Y) (xs : List X) → flat_map g (map f xs) ≡ flat_map (λ x. g (f x)) xs
  joined_over_map = flat_map-map

  -- the lists in another order
  pub swap_two : (a b : X) (xs : List X) → IsPermutation (a ∷ b ∷ xs) (b ∷ a ∷ xs)
  swap_two a b xs = IsPermutation-middle (a ∷ []) b xs

  pub shuffled_middle : (xs : List X) (a : X) (ys : List X) → IsPermutation (xs ++ (a ∷ ys)) (a ∷ (xs ++ ys))
  shuffled_middle = IsPermutation-middle

  pub shuffled_append : (xs ys zs : List X) → IsPermutation xs ys → IsPermutation (xs ++ zs) (ys ++ zs)
  shuffled_append xs ys zs = IsPermutation-append_left zs xs ys
