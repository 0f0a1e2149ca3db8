-- Sums and lists over 1, 2, .. n, and what one change among them makes. Assumes nothing.
use Rattle.std.proofs.Common.{◌≡◌, ℕ, zero, suc, ◌+◌, ◌<◌, ◌≤◌, List, [], ◌∷◌, ◌++◌, sum_by, sym, refl, ap, ◌∙◌, inl, inr, arith, flat_map, All, IsPermutation}
use Rattle.std.proofs.lemmas.List.{flat_map_more, append-nil}
use Rattle.std.proofs.lemmas.List.Elements.{All-nil, All-push}
use Rattle.std.proofs.lemmas.List.Sums.{sum_by_push}
use Rattle.std.proofs.lemmas.List.Sorted.{IsPermutation-middle, IsPermutation-append_left}
use Rattle.std.proofs.lemmas.Bool.{cases_eq, cases_lt}
use Rattle.ledger.specs.Rules.{upto}

pub all_upto : (P : ℕ → Type 0) (n : ℕ) → ((k : ℕ) → 1 ≤ k → k ≤ n → P k) → All P (upto n)
all_upto P zero h = All-nil P
all_upto P (suc n) h = All-push P (upto n) (suc n) (all_upto P n (λ k a b. h k a (omega arith))) (h (suc n) (omega arith) (omega arith))

pub sum_le : (f g : ℕ → ℕ) (n : ℕ) → ((k : ℕ) → 1 ≤ k → k ≤ n → f k ≤ g k) → sum_by f (upto n) ≤ sum_by g (upto n)
sum_le f g zero h = omega arith
sum_le f g (suc n) h =
    let rest : sum_by f (upto n) ≤ sum_by g (upto n) = sum_le f g n (λ k a b. h k a (omega arith)) in
    let last : f (suc n) ≤ g (suc n) = h (suc n) (omega arith) (omega arith) in
    omega (arith, sum_by_push f (upto n) (suc n), sum_by_push g (upto n) (suc n))

pub sum_same : (f g : ℕ → ℕ) (n : ℕ) → ((k : ℕ) → 1 ≤ k → k ≤ n → f k ≡ g k) → sum_by f (upto n) ≡ sum_by g (upto n)
sum_same f g n h = omega (arith, sum_le f g n (λ k a b. omega (arith, h k a b)), sum_le g f n (λ k a b. omega (arith, h k a b)))

-- f and g differ at most at k
pub sum_change : (f g : ℕ → ℕ) (n k : ℕ) → 1 ≤ k → k ≤ n → ((j : ℕ) → 1 ≤ j → j ≤ n → (j ≡ k → ⊥) → g j ≡ f j) → sum_by g (upto n) + f k ≡ sum_by f (upto n) + g k
sum_change f g zero k a b h = omega arith
sum_change f g (suc n) k a b h =
    elim (cases_eq (suc n) k) [
      | inl e ↦
          let rest : sum_by g (upto n) ≡ sum_by f (upto n) = sum_same g f n (λ j c d. h j c (omega arith) (λ i. omega arith)) in
          let same-f : f (suc n) ≡ f k = ap f e in
          let same-g : g (suc n) ≡ g k = ap g e in
          omega (arith, sum_by_push f (upto n) (suc n), sum_by_push g (upto n) (suc n))
      | inr ne ↦
          let within : k ≤ n = omega arith in
          let rest : sum_by g (upto n) + f k ≡ sum_by f (upto n) + g k = sum_change f g n k a within (λ j c d. h j c (omega arith)) in
          let last : g (suc n) ≡ f (suc n) = h (suc n) (omega arith) (omega arith) ne in
          omega (arith, sum_by_push f (upto n) (suc n), sum_by_push g (upto n) (suc n))
    ]

-- past m there is nothing to add
pub sum_past : (f : ℕ → ℕ) (m n : ℕ) → m ≤ n → ((k : ℕ) → m < k → f k ≡ 0) → sum_by f (upto n) ≡ sum_by f (upto m)
sum_past f m zero l h = let e : m ≡ 0 = omega arith in ap (λ k. sum_by f (upto k)) (sym e)
sum_past f m (suc n) l h =
    elim (cases_lt m (suc n)) [
      | inl lt ↦
          let rest : sum_by f (upto n) ≡ sum_by f (upto m) = sum_past f m n (omega arith) h in
          let last : f (suc n) ≡ 0 = h (suc n) lt in
          omega (arith, sum_by_push f (upto n) (suc n))
      | inr le ↦ let e : suc n ≡ m = omega arith in ap (λ k. sum_by f (upto k)) e
    ]

module _ {X : Type 0} where
  joined_last : (F : ℕ → List X) (n : ℕ) → flat_map F (upto (suc n)) ≡ flat_map F (upto n) ++ F (suc n)
  joined_last F n = sym (flat_map_more F [] (upto n) (suc n))

  pub joined_none : (n : ℕ) → flat_map {A = X} (λ k. []) (upto n) ≡ []
  joined_none zero = refl
  joined_none (suc n) = joined_last (λ k. []) n ∙ append-nil _ ∙ joined_none n

  joined_same : (F G : ℕ → List X) (n : ℕ) → ((k : ℕ) → k ≤ n → F k ≡ G k) → flat_map F (upto n) ≡ flat_map G (upto n)
  joined_same F G zero h = refl
  joined_same F G (suc n) h =
      let rest : flat_map F (upto n) ≡ flat_map G (upto n) = joined_same F G n (λ k b. h k (omega arith)) in
      let last : F (suc n) ≡ G (suc n) = h (suc n) (omega arith) in
      let f = joined_last F n in
      let g = joined_last G n in
      cc

  -- G has one more element than F at k, in front, and is F elsewhere
  pub joined_change : (F G : ℕ → List X) (n k : ℕ) (x : X) → 1 ≤ k → k ≤ n → G k ≡ x ∷ F k → ((j : ℕ) → (j ≡ k → ⊥) → G j ≡ F j) → IsPermutation (flat_map G (upto n)) (x ∷ flat_map F (upto n))
  joined_change F G zero k x a b e h = absurd (omega arith)
  joined_change F G (suc n) k x a b e h =
      elim (cases_eq (suc n) k) [
        | inl i ↦
            let rest : flat_map G (upto n) ≡ flat_map F (upto n) = joined_same G F n (λ j d. h j (λ s. omega arith)) in
            let last : G (suc n) ≡ x ∷ F (suc n) = ap G i ∙ e ∙ ap (λ j. x ∷ F j) (sym i) in
            rw (joined_last G n, joined_last F n, rest, last) (IsPermutation-middle (flat_map F (upto n)) x (F (suc n)))
        | inr ne ↦
            rw (joined_last G n, joined_last F n, h (suc n) ne) (IsPermutation-append_left (F (suc n)) _ _ (joined_change F G n k x a (omega arith) e h))
      ]
