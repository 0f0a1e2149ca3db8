-- Strips are lawful. Assumes nothing.
use Rattle.std.specs.Prelude.{◌≡◌, ℕ, ◌+◌, ◌-◌, ◌*◌, ◌^◌, ◌<◌, ◌≤◌, Bool, true, false, cond, not, ◌&&◌, ◌⊎◌, List, [], ◌∷◌, ◌++◌, length, Some, None, sum_by, ◌==◌, nat_le, refl, All}
use Rattle.std.proofs.Common.{sym, ap, ◌∙◌, inl, inr, mul-le-mul, mul-le-mul_left, mul-le-mul_right, arith, pow_mono, pow_pos}
use Rattle.std.proofs.lemmas.List.{nil_from_length}
use Rattle.std.proofs.lemmas.List.Sums.{sum_by-cons, sum_by_push}
use Rattle.std.proofs.lemmas.List.Elements.{All-nil, All-push, All-head, All-tail}
use Rattle.std.proofs.lemmas.Bool.Decides.{nat_tests}
use Rattle.std.proofs.lemmas.Bool.{cases_Bool, leb-true, leb-false, eqb-true, eqb-false, le-leb, and_parts, true≢false, and_right, cases_lt}
use Rattle.kinds.specs.declared.piece.Piece.{Piece}
use Rattle.refusals.specs.declared.PieceRefusal.TheVariants.{Finish, First, Second}
use Rattle.kinds.specs.Kind.{Lawful, Admitted, ClassOf, Built, one_more, none_yet, level, weights, fits_after, between}
use Rattle.kinds.specs.Strips.{rank, narrow, wide, row_height, strip_refusal, area, strips}
use Rattle.kinds.specs.Told.{told_yes, told_no, told_same, is_between, in_between, not_between, above}
use Rattle.kinds.specs.Ranks.{rank_most, rank_enough, rank_half}

-- a width and a height against a row of twice the one and half the other
quarter : (a b c h : ℕ) → c ≤ 2 * a → h ≤ 2 * b → c * h ≤ 4 * (a * b)
quarter a b c h l k = omega (arith, mul-le-mul l k)

module _ (C : ℕ) (low : 1 ≤ C) (high : C ≤ 1000000) where
  pub record Sized (p : Piece) : Type 0 where
    pub wide_some : 1 ≤ p.first
    pub wide_most : p.first ≤ C
    pub high_some : 1 ≤ p.second
    pub high_most : p.second ≤ 4096

  pub sized : (p : Piece) → strip_refusal C p ≡ None → Sized p
  sized p a = record { wide_some = grind (arith, nat_tests); wide_most = grind (arith, nat_tests); high_some = grind (arith, nat_tests); high_most = grind (arith, nat_tests) }

  load_is : (p : Piece) → strip_refusal C p ≡ None → (strips C).load p ≡ p.first
  load_is p a = told_yes _ _ _ a

  weight_is : (p : Piece) → strip_refusal C p ≡ None → (strips C).weight p ≡ 4 * (p.first * p.second)
  weight_is p a = told_yes _ _ _ a

  height_narrow : (c : ℕ) → narrow c ≡ true → row_height c ≡ 2 ^ (c - 1)
  height_narrow c e = rw e

  height_wide : (c : ℕ) → narrow c ≡ false → wide c ≡ true → row_height c ≡ 2 ^ (c - 14)
  height_wide c n w = rw (n, w)

  -- the fit of a piece that brings the level to x, at count n
  abbrev row_fit : (c n x : ℕ) → Bool
  row_fit c n x = cond (narrow c) (nat_le x C) (wide c && n == 0)

  narrow_fit : (c n x : ℕ) → narrow c ≡ true → row_fit c n x ≡ nat_le x C
  narrow_fit c n x e = rw e

  wide_fit : (c n x : ℕ) → narrow c ≡ false → wide c ≡ true → row_fit c n x ≡ (n == 0)
  wide_fit c n x e w = rw (e, w)

  -- a class of narrow rows, or of wide ones
  record Row (c : ℕ) (p : Piece) : Type 0 where
    is_class : ClassOf (strips C) c
    tall : p.second ≤ row_height c
    flat : row_height c ≤ 2 * p.second
    sides : ((narrow c ≡ true) × (2 * p.first ≤ C)) ⊎ ((narrow c ≡ false) × (wide c ≡ true) × (C < 2 * p.first))

  row : (c : ℕ) (p : Piece) → strip_refusal C p ≡ None → (strips C).class p ≡ c → Row c p
  row c p a e =
      let z = sized p a in
      let g : ℕ = rank p.second in
      let most : g ≤ 12 = rank_most p.second in
      let t : p.second ≤ 2 ^ g = rank_enough p.second z.high_most in
      let f : 2 ^ g ≤ 2 * p.second = rank_half p.second z.high_some in
      let i : c ≡ g + cond (nat_le (2 * p.first) C) 1 14 = sym e ∙ told_yes _ _ _ a in
      elim (cases_Bool (nat_le (2 * p.first) C)) [
        | inl n ↦
            let j : c ≡ g + 1 = i ∙ ap (λ b. g + cond b 1 14) n in
            let nc : narrow c ≡ true = is_between 1 13 c (omega arith) (omega arith) in
            let k : c - 1 ≡ g = omega arith in
            let r : row_height c ≡ 2 ^ g = height_narrow c nc ∙ ap (λ x. 2 ^ x) k in
            record { is_class = (omega arith, omega arith); tall = omega arith; flat = omega arith; sides = inl (nc, leb-true (2 * p.first) C n) }
        | inr n ↦
            let j : c ≡ g + 14 = i ∙ ap (λ b. g + cond b 1 14) n in
            let nc : narrow c ≡ false = above 1 13 c (omega arith) in
            let wc : wide c ≡ true = is_between 14 26 c (omega arith) (omega arith) in
            let k : c - 14 ≡ g = omega arith in
            let r : row_height c ≡ 2 ^ g = height_wide c nc wc ∙ ap (λ x. 2 ^ x) k in
            record { is_class = (omega arith, omega arith); tall = omega arith; flat = omega arith; sides = inr (nc, wc, leb-false (2 * p.first) C n) }
      ]

  -- what a row so built holds

  level_push : (ps : List Piece) (p : Piece) → strip_refusal C p ≡ None → level (strips C) (ps ++ (p ∷ [])) ≡ level (strips C) ps + p.first
  level_push ps p a = omega (arith, sum_by_push (strips C).load ps p, load_is p a)

  weights_push : (ps : List Piece) (p : Piece) → strip_refusal C p ≡ None → weights (strips C) (ps ++ (p ∷ [])) ≡ weights (strips C) ps + 4 * (p.first * p.second)
  weights_push ps p a = omega (arith, sum_by_push (strips C).weight ps p, weight_is p a)

  fit_is : (c n l : ℕ) (p : Piece) → strip_refusal C p ≡ None → (strips C).fits c n l p ≡ row_fit c n (l + p.first)
  fit_is c n l p a = told_yes _ _ _ a

  level_ok : {c : ℕ} {ps : List Piece} → Built (strips C) c ps → level (strips C) ps ≤ C
  level_ok none_yet = omega arith
  level_ok {c} (one_more {ps = ps} {p = p} b a e nf ft) =
      let fit : row_fit c (length ps) (level (strips C) ps + p.first) ≡ true = sym (fit_is c (length ps) (level (strips C) ps) p a) ∙ ft in
      elim (row c p a e).sides [
        | inl n ↦ omega (arith, level_push ps p a, leb-true (level (strips C) ps + p.first) C (sym (narrow_fit c _ _ n.0) ∙ fit))
        | inr w ↦
            let nil : length ps ≡ 0 = eqb-true (length ps) 0 (sym (wide_fit c _ _ w.0 w.1) ∙ fit) in
            let none : level (strips C) ps ≡ 0 = ap (level (strips C)) (nil_from_length ps nil) in
            omega (arith, level_push ps p a, (sized p a).wide_most)
      ]

  area_ok : {c : ℕ} {ps : List Piece} → Built (strips C) c ps → sum_by area ps ≤ level (strips C) ps * row_height c
  area_ok none_yet = omega arith
  area_ok {c} (one_more {ps = ps} {p = p} b a e nf ft) =
      omega (arith, area_ok b, sum_by_push area ps p, ap (λ n. n * row_height c) (level_push ps p a), mul-le-mul_left p.first (row c p a e).tall)

  heavy_ok : {c : ℕ} {ps : List Piece} → Built (strips C) c ps → 2 * (level (strips C) ps * row_height c) ≤ weights (strips C) ps
  heavy_ok none_yet = omega arith
  heavy_ok {c} (one_more {ps = ps} {p = p} b a e nf ft) =
      omega (arith, heavy_ok b, weights_push ps p a, ap (λ n. n * row_height c) (level_push ps p a), mul-le-mul_left p.first (row c p a e).flat)

  wide_heavy : {c : ℕ} {ps : List Piece} → Built (strips C) c ps → narrow c ≡ false → 0 < length ps → C * row_height c ≤ weights (strips C) ps
  wide_heavy none_yet w h = absurd (omega arith)
  wide_heavy {c} (one_more {ps = ps} {p = p} b a e nf ft) w h =
      elim (row c p a e).sides [
        | inl n ↦ absurd (true≢false (sym n.0 ∙ w))
        | inr k ↦ omega (arith, weights_push ps p a, quarter p.first p.second C (row_height c) (omega (arith, k.2)) (row c p a e).flat)
      ]

  all_ok : {c : ℕ} {ps : List Piece} → Built (strips C) c ps → All (λ p. (strip_refusal C p ≡ None) × (p.second ≤ row_height c)) ps
  all_ok {c} none_yet = All-nil (λ p. (strip_refusal C p ≡ None) × (p.second ≤ row_height c))
  all_ok {c} (one_more {ps = ps} {p = p} b a e nf ft) = All-push (λ p. (strip_refusal C p ≡ None) × (p.second ≤ row_height c)) ps p (all_ok b) (a, (row c p a e).tall)

  pow_range : (k : ℕ) → k ≤ 12 → (1 ≤ 2 ^ k) × (C * 2 ^ k ≤ 2 ^ 44)
  pow_range k h = (pow_pos k, omega (arith, mul-le-mul high (pow_mono {i = k} {j = 12} h)))

  in_narrow : (c : ℕ) → narrow c ≡ true → c ≤ 13
  in_narrow c e = (in_between 1 13 c e).1

  class_sides : (c : ℕ) → ClassOf (strips C) c → (narrow c ≡ true) ⊎ ((narrow c ≡ false) × (wide c ≡ true))
  class_sides c k =
      elim (cases_lt 13 c) [
        | inl l ↦ inr (above 1 13 c l, is_between 14 26 c l k.1)
        | inr l ↦ inl (is_between 1 13 c k.0 l)
      ]

  costs : (c : ℕ) → ClassOf (strips C) c → (1 ≤ row_height c) × (C * row_height c ≤ 2 ^ 44)
  costs c k =
      elim (class_sides c k) [
        | inl n ↦ rw (height_narrow c n) (pow_range (c - 1) (omega (arith, in_narrow c n)))
        | inr w ↦ rw (height_wide c w.0 w.1) (pow_range (c - 14) (omega (arith, k.1)))
      ]

  no_sides : (c : ℕ) → (ClassOf (strips C) c → ⊥) → (narrow c ≡ false) × (wide c ≡ false)
  no_sides c h = (not_between 1 13 c (λ b. h (b.0, omega (arith, b.1))), not_between 14 26 c (λ b. h (omega (arith, b.0), b.1)))

  all_admitted : (h : ℕ) (ps : List Piece) → All (λ p. (strip_refusal C p ≡ None) × (p.second ≤ h)) ps → All (Admitted (strips C)) ps
  all_admitted h ps a i d s = (a i d s).0

  weights_area : (ps : List Piece) → All (Admitted (strips C)) ps → weights (strips C) ps ≡ 4 * sum_by area ps
  weights_area [] h = refl
  weights_area (p ∷ ps) h = omega (arith, weights_area ps (All-tail (Admitted (strips C)) p ps h), weight_is p (All-head (Admitted (strips C)) p ps h), sum_by-cons (strips C).weight p ps, sum_by-cons area p ps)

  unfit : (c : ℕ) (ps : List Piece) (p : Piece) → Built (strips C) c ps → Admitted (strips C) p → (strips C).class p ≡ c → fits_after (strips C) c ps p ≡ false → C * row_height c ≤ weights (strips C) ps
  unfit c ps p b a e f =
      let un : row_fit c (length ps) (level (strips C) ps + p.first) ≡ false = sym (fit_is c (length ps) (level (strips C) ps) p a) ∙ f in
      elim (row c p a e).sides [
        | inl n ↦
            let over : C < level (strips C) ps + p.first = leb-false (level (strips C) ps + p.first) C (sym (narrow_fit c _ _ n.0) ∙ un) in
            let half : C ≤ 2 * level (strips C) ps = omega (arith, n.1) in
            omega (arith, heavy_ok b, mul-le-mul_right (row_height c) half)
        | inr w ↦
            let ne : length ps ≡ 0 → ⊥ = eqb-false (length ps) 0 (sym (wide_fit c _ _ w.0 w.1) ∙ un) in
            wide_heavy b w.0 (omega arith)
      ]

  pub strips_lawful : Lawful (strips C)
  strips_lawful = record {
    some_class = omega arith;
    few_classes = omega arith;
    admitted_has_class = λ p a. (row _ p a refl).is_class;
    refused_tells_nothing = λ p h. (told_no _ _ _ h, told_no _ _ _ h, told_no _ _ _ h, λ c n l. told_no _ _ _ h);
    no_class_tells_nothing = λ c h. let k = no_sides c h in (rw (k.0, k.1), rw k.0, λ n l. rw k.1, λ n l p. rw (k.0, k.1) (told_same (strip_refusal C p) false));
    first_zero_refused = λ p z a. omega (arith, (sized p a).wide_some);
    first_over_refused_as_zero = λ p o. ap (λ b. cond (not (p.finish == 0)) (Some Finish) (cond (not b) (Some First) (cond (not (between 1 4096 p.second)) (Some Second) None))) (above 1 C p.first (omega arith));
    weight_range = λ p a. let z = sized p a in rw (weight_is p a) (omega (arith, mul-le-mul z.wide_some z.high_some, mul-le-mul z.wide_most z.high_most, mul-le-mul_right 4096 high));
    load_range = λ p a. let z = sized p a in rw (load_is p a) (omega (arith, z.wide_some, z.wide_most));
    unit_some = low;
    cost_range = costs;
    ceiling_range = omega arith;
    standing_none_or_cost = λ c k. elim (class_sides c k) [ inl n ↦ inr (rw n) | inr w ↦ inl (rw w.0) ];
    empty_takes = λ p a.
        let c : ℕ = (strips C).class p in
        fit_is c 0 0 p a ∙ elim (row c p a refl).sides [
          | inl n ↦ narrow_fit c 0 (0 + p.first) n.0 ∙ le-leb (0 + p.first) C (omega (arith, (sized p a).wide_most))
          | inr w ↦ wide_fit c 0 (0 + p.first) w.0 w.1
        ];
    empty_not_full = λ c k. and_right (wide c) (nat_le 1 0) refl;
    built_allowed = λ c ps some b. ((all_ok b, omega (arith, area_ok b, mul-le-mul_right (row_height c) (level_ok b))), omega (arith, level_ok b));
    full_weighs_enough = λ c ps b f.
        let k = and_parts (wide c) (nat_le 1 (length ps)) f in
        wide_heavy b (above 1 13 c (in_between 14 26 c k.0).0) (leb-true 1 (length ps) k.1);
    unfit_weighs_enough = unfit;
    allowed_admitted = λ ps h l a. all_admitted h ps a.0;
    allowed_weighs_at_most = λ ps h l a. omega (arith, weights_area ps (all_admitted h ps a.0), a.1);
    full_after_first = λ p a z.
        let c : ℕ = (strips C).class p in
        elim (row c p a refl).sides [
          | inl n ↦ absurd (let e : row_height c ≡ 0 = sym (ap (λ b. cond b (row_height c) 0) n.0) ∙ z in omega (arith, (costs c (row c p a refl).is_class).0))
          | inr w ↦ ap (λ b. b && true) w.1
        ];
  }
