-- Finishes over a lawful kind are lawful. Assumes nothing.
use Rattle.std.specs.Prelude.{◌≡◌, ℕ, ◌+◌, ◌-◌, ◌*◌, ◌/◌, ◌%◌, ◌<◌, ◌≤◌, Bool, true, false, cond, ◌&&◌, ltb, List, [], ◌∷◌, map, length, get_or, Some, None, sum_by, ◌≢◌, nat_lt, refl, All}
use Rattle.std.proofs.Common.{sym, ap, subst, ◌∙◌, inl, inr, div-lt_iff_lt-mul, mod-lt, mul-le-mul_right, div-mul-le_self, arith}
use Rattle.std.proofs.lemmas.Nat.{le-div, div-mul-add, mod-mul-add, row_fits}
use Rattle.std.proofs.lemmas.List.{map_push, length-map}
use Rattle.std.proofs.lemmas.List.Sums.{sum_by-cons}
use Rattle.std.proofs.lemmas.List.Elements.{All-nil, All-cons, All-head, All-tail, All-push}
use Rattle.std.proofs.lemmas.Bool.{true_from_ne_false, cond-true, cond-false, lt-ltb, ltb-true, ne_eqb, and_right, cases_Bool, true≢false}
use Rattle.kinds.specs.declared.piece.Piece.{Piece}
use Rattle.refusals.specs.declared.PieceRefusal.TheVariants.{Finish}
use Rattle.kinds.specs.Kind.{Meaning, Lawful, Admitted, ClassOf, Built, one_more, none_yet, full_with, fits_after}
use Rattle.kinds.specs.Told.{is_between, in_between, not_between}
use Rattle.layers.specs.Mapped.{all_unmap}
use Rattle.layers.specs.Finishes.{plain, below, has_class, finishes_by, reckoned, finishes}

-- classes in rows of n
row_rest : (n f k : ℕ) → 1 ≤ k → k ≤ n → (f * n + k - 1) % n + 1 ≡ k
row_rest n f k a b =
    let e : f * n + k - 1 ≡ f * n + (k - 1) = omega arith in
    omega (arith, ap (λ x. x % n) e, mod-mul-add f n (k - 1) (omega arith))

row_is : (n f k : ℕ) → 1 ≤ k → k ≤ n → (f * n + k - 1) / n ≡ f
row_is n f k a b =
    let e : f * n + k - 1 ≡ f * n + (k - 1) = omega arith in
    ap (λ x. x / n) e ∙ div-mul-add f n (k - 1) (omega arith)

row_within : (n F f k : ℕ) → f < F → k ≤ n → f * n + k ≤ F * n
row_within n F f k a b = omega (arith, row_fits f n F n a (omega arith))

none_is_some : {X : Type 0} (r : X) → None ≢ Some r
none_is_some r e = cc

same_both : {X : Type 0} {x : X} (b : Bool) → cond b x x ≡ x
same_both true = refl
same_both false = refl

module _ (F : ℕ) (m : Meaning) (law : Lawful m) where
  all_low : (f : ℕ) → f < F → (ps : List Piece) → All (λ p. p.finish ≡ f) ps → All (λ p. p.finish < F) ps
  all_low f l ps h i d s = omega (arith, h i d s)

  all_down : (f : ℕ) → f < F → (ps : List Piece) → All (λ p. p.finish ≡ f) ps → All (Admitted m) (map plain ps) → All (Admitted (finishes_by F m)) ps
  all_down f l ps h a i d s =
      let p : Piece = get_or ps i d in
      let e : ltb p.finish F ≡ true = lt-ltb p.finish F (omega (arith, h i d s)) in
      cond-true _ _ _ e ∙ all_unmap (Admitted m) plain ps a i d s

  -- an admitted piece, of class c
  record Down (c : ℕ) (p : Piece) : Type 0 where
    low : p.finish < F
    admitted : Admitted m (plain p)
    class : m.class (plain p) ≡ below F m c
    finish : p.finish ≡ (c - 1) / m.classes
    has : has_class F m c ≡ true

  low_finish : (p : Piece) → Admitted (finishes_by F m) p → nat_lt p.finish F ≡ true
  low_finish p a = true_from_ne_false (nat_lt p.finish F) (λ e. none_is_some Finish (sym a ∙ cond-false _ _ _ e))

  below_admitted : (p : Piece) → Admitted (finishes_by F m) p → Admitted m (plain p)
  below_admitted p a = sym (cond-true _ _ _ (low_finish p a)) ∙ a

  class_is : (p : Piece) → Admitted (finishes_by F m) p → (finishes_by F m).class p ≡ p.finish * m.classes + m.class (plain p)
  class_is p a =
      let k = law.admitted_has_class (plain p) (below_admitted p a) in
      rw (low_finish p a) (rw (ne_eqb (m.class (plain p)) 0 (λ e. omega (arith, k.0))))

  in_class : (p : Piece) → Admitted (finishes_by F m) p → ClassOf (finishes_by F m) ((finishes_by F m).class p)
  in_class p a =
      let k = law.admitted_has_class (plain p) (below_admitted p a) in
      let w = row_within m.classes F p.finish (m.class (plain p)) (ltb-true p.finish F (low_finish p a)) k.1 in
      rw (class_is p a) (omega (arith, k.0), w)

  has_from : (c : ℕ) → ClassOf (finishes_by F m) c → has_class F m c ≡ true
  has_from c k = is_between 1 (F * m.classes) c k.0 k.1

  from_has : (c : ℕ) → has_class F m c ≡ true → ClassOf (finishes_by F m) c
  from_has c e = in_between 1 (F * m.classes) c e

  below_class : (c : ℕ) → ClassOf m (below F m c)
  below_class c = (omega arith, omega (arith, mod-lt (c - 1) {m = m.classes} law.some_class))

  down : (c : ℕ) (p : Piece) → Admitted (finishes_by F m) p → (finishes_by F m).class p ≡ c → Down c p
  down c p a e =
      let k = law.admitted_has_class (plain p) (below_admitted p a) in
      let i : p.finish * m.classes + m.class (plain p) ≡ c = sym (class_is p a) ∙ e in
      record {
        low = ltb-true p.finish F (low_finish p a);
        admitted = below_admitted p a;
        class = sym (row_rest m.classes p.finish (m.class (plain p)) k.0 k.1) ∙ ap (below F m) i;
        finish = sym (row_is m.classes p.finish (m.class (plain p)) k.0 k.1) ∙ ap (λ x. (x - 1) / m.classes) i;
        has = has_from c (subst (ClassOf (finishes_by F m)) e (in_class p a));
      }

  -- a measure of pieces that this layer passes on
  sum_down : (f : Piece → ℕ) (ps : List Piece) → All (λ p. p.finish < F) ps → sum_by (λ p. cond (nat_lt p.finish F) (f (plain p)) 0) ps ≡ sum_by f (map plain ps)
  sum_down f [] h = refl
  sum_down f (p ∷ ps) h =
      sum_by-cons (λ p. cond (nat_lt p.finish F) (f (plain p)) 0) p ps
      ∙ ap (λ b. cond b (f (plain p)) 0 + sum_by (λ p. cond (nat_lt p.finish F) (f (plain p)) 0) ps) (lt-ltb p.finish F (All-head (λ p. p.finish < F) p ps h))
      ∙ ap (λ n. f (plain p) + n) (sum_down f ps (All-tail (λ p. p.finish < F) p ps h))
      ∙ sym (sum_by-cons f (plain p) (map plain ps))

  full_down : (c : ℕ) (ps : List Piece) → has_class F m c ≡ true → All (λ p. p.finish < F) ps → full_with (finishes_by F m) c ps ≡ full_with m (below F m c) (map plain ps)
  full_down c ps e h =
      let n = length-map ps plain in
      let l = sum_down m.load ps h in
      rw e (cc)

  fits_down : (c : ℕ) (ps : List Piece) (p : Piece) → has_class F m c ≡ true → p.finish < F → All (λ p. p.finish < F) ps → fits_after (finishes_by F m) c ps p ≡ fits_after m (below F m c) (map plain ps) (plain p)
  fits_down c ps p e f h =
      let n = length-map ps plain in
      let l = sum_down m.load ps h in
      rw (e, lt-ltb p.finish F f) (cc)

  record Passed (c : ℕ) (ps : List Piece) : Type 0 where
    built : Built m (below F m c) (map plain ps)
    low : All (λ p. p.finish < F) ps
    same : All (λ p. p.finish ≡ (c - 1) / m.classes) ps

  built_down : {c : ℕ} {ps : List Piece} → Built (finishes_by F m) c ps → Passed c ps
  built_down {c} none_yet = record { built = none_yet; low = All-nil (λ p. p.finish < F); same = All-nil (λ p. p.finish ≡ (c - 1) / m.classes) }
  built_down {c} (one_more {ps = ps} {p = p} b a e nf ft) =
      let r : Passed c ps = built_down b in
      let d : Down c p = down c p a e in
      record {
        built = rw (map_push plain ps p) (one_more r.built d.admitted d.class (sym (full_down c ps d.has r.low) ∙ nf) (sym (fits_down c ps p d.has d.low r.low) ∙ ft));
        low = All-push (λ p. p.finish < F) ps p r.low d.low;
        same = All-push (λ p. p.finish ≡ (c - 1) / m.classes) ps p r.same d.finish;
      }

  has_built : {c : ℕ} {ps : List Piece} → Built (finishes_by F m) c ps → 0 < length ps → has_class F m c ≡ true
  has_built none_yet h = absurd (omega arith)
  has_built {c} (one_more {p = p} b a e nf ft) h = (down c p a e).has

  cost_down : (c : ℕ) → has_class F m c ≡ true → (finishes_by F m).cost c ≡ m.cost (below F m c)
  cost_down c e = rw e

  standing_down : (c : ℕ) → has_class F m c ≡ true → (finishes_by F m).standing c ≡ m.standing (below F m c)
  standing_down c e = rw e

  row_low : (c : ℕ) → has_class F m c ≡ true → (c - 1) / m.classes < F
  row_low c e = let k = from_has c e in (div-lt_iff_lt-mul {k = m.classes} {x = c - 1} {y = F} law.some_class).1 (omega (arith, k))

  not_admitted_down : (p : Piece) → (Admitted (finishes_by F m) p → ⊥) → ((finishes_by F m).class p ≡ 0) × ((finishes_by F m).weight p ≡ 0) × ((finishes_by F m).load p ≡ 0) × ((c n l : ℕ) → (finishes_by F m).fits c n l p ≡ false)
  not_admitted_down p h =
      elim (cases_Bool (nat_lt p.finish F)) [
        | inl e ↦
            let n = law.refused_tells_nothing (plain p) (λ a. h (cond-true _ _ _ e ∙ a)) in
            (rw (e, n.0), rw (e, n.1), rw (e, n.2), λ c k l. ap (λ b. cond (has_class F m c && nat_lt p.finish F) b false) (n.3 (below F m c) k l) ∙ same_both (has_class F m c && nat_lt p.finish F))
        | inr e ↦ (rw e, rw e, rw e, λ c k l. ap (λ b. cond b (m.fits (below F m c) k l (plain p)) false) (and_right (has_class F m c) (nat_lt p.finish F) e))
      ]

  no_class_down : (c : ℕ) → (ClassOf (finishes_by F m) c → ⊥) → ((finishes_by F m).cost c ≡ 0) × ((finishes_by F m).standing c ≡ 0) × ((n l : ℕ) → (finishes_by F m).full c n l ≡ false) × ((n l : ℕ) (p : Piece) → (finishes_by F m).fits c n l p ≡ false)
  no_class_down c h = let e = not_between 1 (F * m.classes) c h in (rw e, rw e, λ n l. rw e, λ n l p. rw e)

  pub finishes_by_lawful : 1 ≤ F → F * m.classes ≤ 104 → Lawful (finishes_by F m)
  finishes_by_lawful some few = record {
    some_class = omega (arith, mul-le-mul_right m.classes some, law.some_class);
    few_classes = few;
    admitted_has_class = in_class;
    refused_tells_nothing = not_admitted_down;
    no_class_tells_nothing = no_class_down;
    first_zero_refused = λ p z a. law.first_zero_refused (plain p) z (below_admitted p a);
    first_over_refused_as_zero = λ p o. ap (λ r. cond (nat_lt p.finish F) r (Some Finish)) (law.first_over_refused_as_zero (plain p) o);
    weight_range = λ p a. rw (low_finish p a) (law.weight_range (plain p) (below_admitted p a));
    load_range = λ p a. rw (low_finish p a) (law.load_range (plain p) (below_admitted p a));
    unit_some = law.unit_some;
    cost_range = λ c k. rw (has_from c k) (law.cost_range (below F m c) (below_class c));
    ceiling_range = law.ceiling_range;
    standing_none_or_cost = λ c k. rw (has_from c k) (law.standing_none_or_cost (below F m c) (below_class c));
    empty_takes = λ p a.
        let c : ℕ = (finishes_by F m).class p in
        let d : Down c p = down c p a refl in
        fits_down c [] p d.has d.low (All-nil (λ p. p.finish < F)) ∙ ap (λ k. m.fits k 0 0 (plain p)) (sym d.class) ∙ law.empty_takes (plain p) d.admitted;
    empty_not_full = λ c k. rw (has_from c k) (law.empty_not_full (below F m c) (below_class c));
    built_allowed = λ c ps some b.
        let r : Passed c ps = built_down b in
        let e : has_class F m c ≡ true = has_built b some in
        let k = law.built_allowed (below F m c) (map plain ps) (omega (arith, some, length-map ps plain)) r.built in
        (((c - 1) / m.classes, row_low c e, r.same, rw (cost_down c e) k.0), omega (arith, k.1, sum_down m.load ps r.low));
    full_weighs_enough = λ c ps b f. elim (cases_Bool (has_class F m c)) [
      | inl e ↦
          let r : Passed c ps = built_down b in
          let k = law.full_weighs_enough (below F m c) (map plain ps) r.built (sym (full_down c ps e r.low) ∙ f) in
          omega (arith, k, sum_down m.weight ps r.low, ap (λ n. m.unit * n) (cost_down c e))
      | inr e ↦ absurd (true≢false (sym f ∙ cond-false _ _ _ e))
    ];
    unfit_weighs_enough = λ c ps p b a i f.
        let r : Passed c ps = built_down b in
        let d : Down c p = down c p a i in
        let k = law.unfit_weighs_enough (below F m c) (map plain ps) (plain p) r.built d.admitted d.class (sym (fits_down c ps p d.has d.low r.low) ∙ f) in
        omega (arith, k, sum_down m.weight ps r.low, ap (λ n. m.unit * n) (cost_down c d.has));
    allowed_admitted = λ ps h low a. all_down a.0 a.1 ps a.2 (law.allowed_admitted (map plain ps) h low a.3);
    allowed_weighs_at_most = λ ps h low a. omega (arith, sum_down m.weight ps (all_low a.0 a.1 ps a.2), law.allowed_weighs_at_most (map plain ps) h low a.3);
    full_after_first = λ p a z.
        let c : ℕ = (finishes_by F m).class p in
        let d : Down c p = down c p a refl in
        let s : m.standing (m.class (plain p)) ≡ 0 = ap m.standing d.class ∙ sym (standing_down c d.has) ∙ z in
        full_down c (p ∷ []) d.has (All-cons (λ p. p.finish < F) p [] d.low (All-nil (λ p. p.finish < F))) ∙ ap (λ k. full_with m k (plain p ∷ [])) (sym d.class) ∙ law.full_after_first (plain p) d.admitted s;
  }

-- the finishes that are reckoned with have room
pub reckoned_room : (F : ℕ) (m : Meaning) → Lawful m → reckoned F m * m.classes ≤ 104
reckoned_room F m law =
    let most : reckoned F m ≤ 104 / m.classes = omega arith in
    omega (arith, mul-le-mul_right m.classes most, div-mul-le_self 104 m.classes)

pub reckoned_some : (F : ℕ) (m : Meaning) → Lawful m → 1 ≤ F → 1 ≤ reckoned F m
reckoned_some F m law some = omega (arith, le-div 1 104 m.classes law.some_class (omega (arith, law.few_classes)))

-- and are all of them where all have room
pub reckoned_all : (F : ℕ) (m : Meaning) → Lawful m → F * m.classes ≤ 104 → reckoned F m ≡ F
reckoned_all F m law few = omega (arith, le-div F 104 m.classes law.some_class few)

pub finishes_lawful : (F : ℕ) (m : Meaning) → Lawful m → 1 ≤ F → Lawful (finishes F m)
finishes_lawful F m law some = finishes_by_lawful (reckoned F m) m law (reckoned_some F m law some) (reckoned_room F m law)
