-- One more placed piece, and the groups by container number. Assumes nothing.
use Rattle.std.proofs.Common.{◌≡◌, ℕ, ◌<◌, ◌≤◌, Bool, not, eqb, ◌⊎◌, List, [], ◌∷◌, ◌++◌, length, filter, sym, refl, ap, ◌∙◌, subst, inl, inr, arith, flat_map, All, IsPermutation}
use Rattle.std.proofs.lemmas.List.{flat_map_more, map-append, append-nil}
use Rattle.std.proofs.lemmas.List.Elements.{filter-append, All-nil, All-cons, All-head, All-tail}
use Rattle.std.proofs.lemmas.List.Recursion.{found_push_other}
use Rattle.std.proofs.lemmas.List.Sorted.{IsPermutation-refl, IsPermutation-trans, IsPermutation-cons}
use Rattle.std.proofs.lemmas.Bool.{cases_Bool, eq-eqb, ne_eqb, eqb-true, eqb-false}
use Rattle.ledger.specs.Rules.{Call, upto}
use Rattle.ledger.specs.Season.{Placed, placed_by, placed, pieces_of, pieces_in, class_in, numbers}
use Rattle.ledger.proofs.Uptos.{joined_none, joined_change}

abbrev pub push : List Placed → Placed → List Placed
push qs q = qs ++ (q ∷ [])

-- in another container than n
abbrev pub Elsewhere : ℕ → Placed → Type 0
Elsewhere n q = q.container ≡ n → ⊥

-- in one of the containers 1 to top
abbrev pub Numbered : ℕ → Placed → Type 0
Numbered top q = (1 ≤ q.container) × (q.container ≤ top)

-- one more call, and one that places nothing
pub placed_then : (h : List Call) (c : Call) → placed (h ++ (c ∷ [])) ≡ placed h ++ placed_by c
placed_then h c = sym (flat_map_more placed_by [] h c)

pub placed_same : (h : List Call) (c : Call) → placed_by c ≡ [] → placed (h ++ (c ∷ [])) ≡ placed h
placed_same h c e = rw (placed_then h c, e) (append-nil (placed h))

pieces_cons_same : (n : ℕ) (q : Placed) (qs : List Placed) → q.container ≡ n → pieces_in n (q ∷ qs) ≡ q.piece ∷ pieces_in n qs
pieces_cons_same n q qs e = rw (eq-eqb q.container n e)

pieces_cons_other : (n : ℕ) (q : Placed) (qs : List Placed) → (q.container ≡ n → ⊥) → pieces_in n (q ∷ qs) ≡ pieces_in n qs
pieces_cons_other n q qs ne = rw (ne_eqb q.container n ne)

pieces_append : (n : ℕ) (qs rs : List Placed) → pieces_in n (qs ++ rs) ≡ pieces_in n qs ++ pieces_in n rs
pieces_append n qs rs =
    let keep : Placed → Bool = λ q. eqb q.container n in
    ap pieces_of (filter-append keep qs rs) ∙ map-append (λ q. q.piece) (filter keep qs) (filter keep rs)

pub pieces_push_same : (n : ℕ) (qs : List Placed) (q : Placed) → q.container ≡ n → pieces_in n (push qs q) ≡ pieces_in n qs ++ (q.piece ∷ [])
pieces_push_same n qs q e = pieces_append n qs (q ∷ []) ∙ ap (λ l. pieces_in n qs ++ l) (pieces_cons_same n q [] e)

pub pieces_push_other : (n : ℕ) (qs : List Placed) (q : Placed) → (q.container ≡ n → ⊥) → pieces_in n (push qs q) ≡ pieces_in n qs
pieces_push_other n qs q ne = pieces_append n qs (q ∷ []) ∙ ap (λ l. pieces_in n qs ++ l) (pieces_cons_other n q [] ne) ∙ append-nil _

pub pieces_none : (n : ℕ) (qs : List Placed) → All (Elsewhere n) qs → pieces_in n qs ≡ []
pieces_none n [] h = refl
pieces_none n (q ∷ qs) h = pieces_cons_other n q qs (All-head (Elsewhere n) q qs h) ∙ pieces_none n qs (All-tail (Elsewhere n) q qs h)

class_cons_same : (n : ℕ) (q : Placed) (qs : List Placed) → q.container ≡ n → class_in n (q ∷ qs) ≡ q.class
class_cons_same n q qs e = rw (eq-eqb q.container n e)

class_cons_other : (n : ℕ) (q : Placed) (qs : List Placed) → (q.container ≡ n → ⊥) → class_in n (q ∷ qs) ≡ class_in n qs
class_cons_other n q qs ne = rw (ne_eqb q.container n ne)

-- a container keeps its class
pub class_push_found : (n : ℕ) (qs : List Placed) (q : Placed) → 0 < length (pieces_in n qs) → class_in n (push qs q) ≡ class_in n qs
class_push_found n [] q h = absurd (omega arith)
class_push_found n (r ∷ qs) q h =
    elim (cases_Bool (eqb r.container n)) [
      | inl e ↦ let i = eqb-true r.container n e in class_cons_same n r (push qs q) i ∙ sym (class_cons_same n r qs i)
      | inr e ↦
          let i = eqb-false r.container n e in
          let rest : 0 < length (pieces_in n qs) = subst (λ l. 0 < length l) (pieces_cons_other n r qs i) h in
          class_cons_other n r (push qs q) i ∙ class_push_found n qs q rest ∙ sym (class_cons_other n r qs i)
    ]

pub class_push_other : (n : ℕ) (qs : List Placed) (q : Placed) → (q.container ≡ n → ⊥) → class_in n (push qs q) ≡ class_in n qs
class_push_other n qs q ne = found_push_other (class_in n) (λ r. eqb r.container n) (λ r. r.class) 0 refl (λ r rs. refl) qs q (ne_eqb q.container n ne)

pub class_push_new : (n : ℕ) (qs : List Placed) (q : Placed) → All (Elsewhere n) qs → q.container ≡ n → class_in n (push qs q) ≡ q.class
class_push_new n [] q h e = class_cons_same n q [] e
class_push_new n (r ∷ qs) q h e = class_cons_other n r (push qs q) (All-head (Elsewhere n) r qs h) ∙ class_push_new n qs q (All-tail (Elsewhere n) r qs h) e

-- the numbers answered

abbrev but : ℕ → List ℕ → List ℕ
but c ns = filter (λ n. not (eqb n c)) ns

but_last_same : (c : ℕ) (ns : List ℕ) → but c (ns ++ (c ∷ [])) ≡ but c ns
but_last_same c ns =
    rw (filter-append (λ n. not (eqb n c)) ns (c ∷ []), eq-eqb c c refl) (append-nil (but c ns))

but_last_other : (c n : ℕ) (ns : List ℕ) → (n ≡ c → ⊥) → but c (ns ++ (n ∷ [])) ≡ but c ns ++ (n ∷ [])
but_last_other c n ns ne =
    rw (filter-append (λ k. not (eqb k c)) ns (n ∷ []), ne_eqb n c ne)

pub numbers_push_new : (qs : List Placed) (q : Placed) → All (Elsewhere q.container) qs → numbers (push qs q) ≡ numbers qs ++ (q.container ∷ [])
numbers_push_new [] q h = refl
numbers_push_new (r ∷ qs) q h =
    ap (λ l. r.container ∷ but r.container l) (numbers_push_new qs q (All-tail (Elsewhere q.container) r qs h))
    ∙ ap (λ l. r.container ∷ l) (but_last_other r.container q.container (numbers qs) (λ e. All-head (Elsewhere q.container) r qs h (sym e)))

-- container n has a piece, or none has that number
some_or_none : (n : ℕ) (qs : List Placed) → (0 < length (pieces_in n qs)) ⊎ All (Elsewhere n) qs
some_or_none n [] = inr (All-nil (Elsewhere n))
some_or_none n (r ∷ qs) =
    elim (cases_Bool (eqb r.container n)) [
      | inl e ↦ inl (rw (pieces_cons_same n r qs (eqb-true r.container n e)) (omega arith))
      | inr e ↦
          let i = eqb-false r.container n e in
          elim (some_or_none n qs) [
            | inl s ↦ inl (rw (pieces_cons_other n r qs i) s)
            | inr a ↦ inr (All-cons (Elsewhere n) r qs i a)
          ]
    ]

pub numbers_push_found : (qs : List Placed) (q : Placed) → 0 < length (pieces_in q.container qs) → numbers (push qs q) ≡ numbers qs
numbers_push_found [] q h = absurd (omega arith)
numbers_push_found (r ∷ qs) q h =
    elim (some_or_none q.container qs) [
      | inl s ↦ ap (λ l. r.container ∷ but r.container l) (numbers_push_found qs q s)
      | inr a ↦
          elim (cases_Bool (eqb r.container q.container)) [
            | inl e ↦
                let i = eqb-true r.container q.container e in
                ap (λ l. r.container ∷ but r.container l) (numbers_push_new qs q a)
                ∙ ap (λ l. r.container ∷ l)
                (rw i (but_last_same q.container (numbers qs)))
            | inr e ↦
                let none : pieces_in q.container (r ∷ qs) ≡ [] = pieces_none q.container (r ∷ qs) (All-cons (Elsewhere q.container) r qs (eqb-false r.container q.container e) a) in
                absurd (omega (arith, ap length none))
          ]
    ]

-- the groups, joined, are the pieces in some order
pub regrouped : (top : ℕ) (qs : List Placed) → All (Numbered top) qs → IsPermutation (flat_map (λ n. pieces_in n qs) (upto top)) (pieces_of qs)
regrouped top [] h = rw (joined_none top) (IsPermutation-refl [])
regrouped top (q ∷ qs) h =
    let low = All-head (Numbered top) q qs h in
    IsPermutation-trans _ _ _
    (joined_change (λ n. pieces_in n qs) (λ n. pieces_in n (q ∷ qs)) top q.container q.piece low.0 low.1
    (pieces_cons_same q.container q qs refl)
    (λ j ne. pieces_cons_other j q qs (λ e. ne (sym e))))
    (IsPermutation-cons q.piece _ _ (regrouped top qs (All-tail (Numbered top) q qs h)))
