-- Totes are lawful: bars with a piece limit. Assumes nothing.
use Rattle.std.proofs.Common.{◌≡◌, ℕ, ◌+◌, ◌*◌, ◌/◌, ◌^◌, ◌<◌, ◌≤◌, Bool, true, false, cond, ◌&&◌, ltb, leb, List, [], ◌∷◌, length, sym, ap, ◌∙◌, subst, inl, inr, mul-le-mul_right, mul-le-mul, mul-le-mul_left, mul-pos, arith, length-append, All}
use Rattle.std.proofs.Math.Nat.{mul-div_cancel_left}
use Rattle.std.proofs.lemmas.List.Elements.{All-head, All-tail}
use Rattle.std.proofs.lemmas.List.Sums.{sum_by-cons}
use Rattle.std.proofs.lemmas.Bool.{cases_lt, lt-ltb, le-ltb, cond-true, cond-false}
use Rattle.std.proofs.lemmas.Bool.Decides.{nat_tests}
use Rattle.kinds.specs.declared.piece.Piece.{Piece}
use Rattle.kinds.specs.Kind.{Meaning, Lawful, Admitted, ClassOf, Built, one_more, none_yet, level, weights, full_with, fits_after, between}
use Rattle.kinds.specs.Bars.{bars_by}
use Rattle.kinds.specs.Totes.{totes_by, totes}
use Rattle.kinds.specs.Told.{told_yes, told_no, told_same}
use Rattle.kinds.specs.BarLaws.{bar_fit, Measures, Bar, bar, fit_is, Holds, holds, out_class, cost_one, standing_none, count_heavy, level_heavy, lcm_below, unit_some, unit_most, weight_some, weight_most, bars_light, bars_by_lawful, measures}

-- Tests, at count n and with a piece that brings the level to x

module _ (C k K c n x : ℕ) where
  abbrev tote_fit : Bool
  tote_fit = between 1 k c && cond (ltb c k) (ltb n c) (leb x C && ltb n K)

  -- the count at which a tote is full
  abbrev limit : ℕ
  limit = cond (ltb c k) c K

  abbrev tote_full : Bool
  tote_full = between 1 k c && leb limit n

  fits_bar : tote_fit ≡ true → bar_fit C k c n x ≡ true
  fits_bar e = grind (arith, nat_tests)

  open_bar : tote_full ≡ false → (between 1 k c && (ltb c k && leb c n)) ≡ false
  open_bar e = grind (arith, nat_tests)

  has_room : 1 ≤ c → c ≤ k → k ≤ K → tote_full ≡ false → n < K
  has_room s l h e = grind (arith, nat_tests)

  full_then : tote_full ≡ true → (1 ≤ c) × (c ≤ k) × (limit ≤ n)
  full_then e = (grind (arith, nat_tests), grind (arith, nat_tests), grind (arith, nat_tests))

  unfit_then : 1 ≤ c → c ≤ k → tote_fit ≡ false → n < limit → (c ≡ k) × (C < x)
  unfit_then s l e h = (grind (arith, nat_tests), grind (arith, nat_tests))

  does_fit : 1 ≤ c → c ≤ k → n < c → n < K → x ≤ C → tote_fit ≡ true
  does_fit s l a h b = grind (arith, nat_tests)

  is_full : 1 ≤ c → c < k → c ≤ n → tote_full ≡ true
  is_full s l h = grind (arith, nat_tests)

  not_full : n < c → n < K → tote_full ≡ false
  not_full h l = grind (arith, nat_tests)

module _ {C k L u p K : ℕ} (known : Measures C k L u p) (room : k ≤ K) (few : K ≤ 50) where
  abbrev B : Meaning
  B = bars_by C k L u p

  abbrev T : Meaning
  T = totes_by C k L u p K

  is_bar : (q : Piece) → Admitted T q → Bar known q
  is_bar q a = bar known q a

  fit_tote : (c n l : ℕ) (q : Piece) → Admitted T q → T.fits c n l q ≡ tote_fit C k K c n (l + q.first)
  fit_tote c n l q a = told_yes _ _ _ a

  -- a tote's weights by a bar's

  weight_is : (q : Piece) → Admitted T q → T.weight q ≡ cond (ltb (B.class q) k) (u * C * K / B.class q) (k * L * q.first * K + u * C)
  weight_is q a = told_yes _ _ _ a

  weight_below : (q : Piece) → Admitted T q → B.class q < k → T.weight q ≡ K * B.weight q
  weight_below q a l =
      let c : ℕ = B.class q in
      let d : u * C * K ≡ c * (K * B.weight q) = omega (arith, ap (λ n. n * K) ((is_bar q a).harmonic.share l)) in
      weight_is q a ∙ cond-true (ltb c k) _ _ (lt-ltb c k l) ∙ ap (λ n. n / c) d ∙ mul-div_cancel_left (K * B.weight q) (is_bar q a).is_class.0

  weight_last : (q : Piece) → Admitted T q → B.class q ≡ k → T.weight q ≡ K * B.weight q + u * C
  weight_last q a e =
      let t : T.weight q ≡ k * L * q.first * K + u * C = weight_is q a ∙ cond-false (ltb (B.class q) k) _ _ (le-ltb (B.class q) k (omega (arith, e))) in
      omega (arith, t, ap (λ n. K * n) ((is_bar q a).harmonic.last e))

  weight_both : (q : Piece) → Admitted T q → (K * B.weight q ≤ T.weight q) × (T.weight q ≤ K * B.weight q + u * C)
  weight_both q a =
      elim (cases_lt (B.class q) k) [
        | inl l ↦ omega (arith, weight_below q a l)
        | inr l ↦ omega (arith, weight_last q a (omega (arith, (is_bar q a).is_class.1)))
      ]

  weights_both : (ps : List Piece) → All (Admitted T) ps → (K * weights B ps ≤ weights T ps) × (weights T ps ≤ K * weights B ps + length ps * (u * C))
  weights_both [] h = omega arith
  weights_both (q ∷ ps) h =
      omega (arith, sum_by-cons T.weight q ps, ap (λ n. K * n) (sum_by-cons B.weight q ps), weight_both q (All-head (Admitted T) q ps h), weights_both ps (All-tail (Admitted T) q ps h))

  weights_last : (ps : List Piece) → All (Admitted T) ps → All (λ q. B.class q ≡ k) ps → length ps * (u * C) ≤ weights T ps
  weights_last [] h e = omega arith
  weights_last (q ∷ ps) h e = omega (arith, sum_by-cons T.weight q ps, weight_last q (All-head (Admitted T) q ps h) (All-head (λ q. B.class q ≡ k) q ps e), weights_last ps (All-tail (Admitted T) q ps h) (All-tail (λ q. B.class q ≡ k) q ps e))

  -- a tote so built is a bar so built
  down : {c : ℕ} {ps : List Piece} → Built T c ps → Built B c ps × (length ps ≤ K)
  down none_yet = (none_yet, omega arith)
  down {c} (one_more {ps = ps} {p = q} b a e nf ft) =
      let is : ClassOf B c = subst (ClassOf B) e (is_bar q a).is_class in
      let x : ℕ = level B ps + q.first in (
        one_more (down b).0 a e (open_bar C k K c (length ps) x nf) (fit_is known c (length ps) (level B ps) q a ∙ fits_bar C k K c (length ps) x (sym (fit_tote c (length ps) (level B ps) q a) ∙ ft)),
        omega (arith, length-append ps (q ∷ []), has_room C k K c (length ps) x is.0 is.1 room nf),
      )

  -- heavy enough

  held : {c : ℕ} {ps : List Piece} → Built T c ps → Holds known c ps
  held b = holds known (down b).0

  times : {c : ℕ} {ps : List Piece} → Built T c ps → u * C ≤ weights B ps → u * C * K ≤ weights T ps
  times {c} {ps} b h = omega (arith, mul-le-mul_left K h, (weights_both ps (held b).admitted).0)

  crowded : {c : ℕ} {ps : List Piece} → Built T c ps → c ≡ k → K ≤ length ps → u * C * K ≤ weights T ps
  crowded {c} {ps} b i l = omega (arith, mul-le-mul_right (u * C) l, weights_last ps (held b).admitted (subst (λ n. All (λ q. B.class q ≡ n) ps) i (held b).one_class))

  counted : {c : ℕ} {ps : List Piece} → Built T c ps → ClassOf B c → cond (ltb c k) c K ≤ length ps → u * C * K ≤ weights T ps
  counted {c} {ps} b h l =
      elim (cases_lt c k) [
        | inl s ↦ times b (count_heavy known (down b).0 h.0 s (subst (λ n. n ≤ length ps) (cond-true (ltb c k) c K (lt-ltb c k s)) l))
        | inr s ↦ crowded b (omega (arith, h.1)) (subst (λ n. n ≤ length ps) (cond-false (ltb c k) c K (le-ltb c k s)) l)
      ]

  at_cost : (c W : ℕ) → ClassOf B c → u * C * K ≤ W → u * C * K * B.cost c ≤ W
  at_cost c W h l = rw (cost_one known c h) (omega (arith, l))

  full : (c : ℕ) (ps : List Piece) → Built T c ps → full_with T c ps ≡ true → u * C * K * B.cost c ≤ weights T ps
  full c ps b f =
      let t = full_then C k K c (length ps) 0 f in
      at_cost c (weights T ps) (t.0, t.1) (counted b (t.0, t.1) t.2)

  unfit : (c : ℕ) (ps : List Piece) (q : Piece) → Built T c ps → Admitted T q → B.class q ≡ c → fits_after T c ps q ≡ false → u * C * K * B.cost c ≤ weights T ps
  unfit c ps q b a e f =
      let is : ClassOf B c = subst (ClassOf B) e (is_bar q a).is_class in
      let un : tote_fit C k K c (length ps) (level B ps + q.first) ≡ false = sym (fit_tote c (length ps) (level B ps) q a) ∙ f in
      at_cost c (weights T ps) is (elim (cases_lt (length ps) (cond (ltb c k) c K)) [
        | inl l ↦ let o = unfit_then C k K c (length ps) (level B ps + q.first) is.0 is.1 un l in times b (level_heavy known (down b).0 o.0 q a e o.1)
        | inr l ↦ counted b is l
      ])

  some_room : 1 ≤ K
  some_room = omega (arith, room, known.figs.many)

  unit_limit : u * C * K ≤ 304920 * 1000000 * 50
  unit_limit = mul-le-mul (unit_most known) few

  factors : (1 ≤ p + u) × (p + u ≤ 821040)
  factors = omega (arith, lcm_below known, known.figs.lcm_some, known.figs.factor_most, known.figs.unit_most)

  pub totes_by_lawful : Lawful (totes_by C k L u p K)
  totes_by_lawful = let law = bars_by_lawful known in record {
    some_class = law.some_class;
    few_classes = law.few_classes;
    admitted_has_class = law.admitted_has_class;
    refused_tells_nothing = λ q h. let n = law.refused_tells_nothing q h in (n.0, told_no _ _ _ h, n.2, λ c i l. told_no _ _ _ h);
    no_class_tells_nothing = λ c h. let n = law.no_class_tells_nothing c h in let e = out_class known c h in (n.0, n.1, λ i l. rw e, λ i l q. rw e (told_same (T.refusal q) false));
    first_zero_refused = law.first_zero_refused;
    first_over_refused_as_zero = law.first_over_refused_as_zero;
    weight_range = λ q a. (
      omega (arith, (weight_both q a).0, mul-pos some_room (weight_some known q a)),
      omega (arith, (weight_both q a).1, mul-le-mul_left K (weight_most known q a), unit_limit, unit_most known),
    );
    load_range = law.load_range;
    unit_some = mul-pos (unit_some known) some_room;
    cost_range = λ c h. ((law.cost_range c h).0, at_cost c (2 ^ 44) h (omega (arith, unit_limit)));
    ceiling_range = (mul-pos (mul-pos factors.0 known.low) some_room, omega (arith, mul-le-mul (mul-le-mul factors.1 known.high) few));
    standing_none_or_cost = law.standing_none_or_cost;
    empty_takes = λ q a. let z = is_bar q a in fit_tote (B.class q) 0 0 q a ∙ does_fit C k K (B.class q) 0 (0 + q.first) z.is_class.0 z.is_class.1 z.is_class.0 some_room (omega (arith, z.first_most));
    empty_not_full = λ c h. not_full C k K c 0 0 h.0 some_room;
    built_allowed = λ c ps some b. let d = down b in let w = law.built_allowed c ps some d.0 in ((w.0, d.1), w.1);
    full_weighs_enough = full;
    unfit_weighs_enough = unfit;
    allowed_admitted = λ ps h l a. law.allowed_admitted ps h l a.0;
    allowed_weighs_at_most = λ ps h l a.
        omega (arith, (weights_both ps a.0.1).1, mul-le-mul_left K (bars_light known ps a.0.1 a.0.2), mul-le-mul_right (u * C) a.1, ap (λ n. (p + u) * C * K * n) a.0.0);
    full_after_first = λ q a z.
        let is = (is_bar q a).is_class in
        let e : B.class q ≡ 1 = standing_none known (B.class q) is z in
        is_full C k K (B.class q) 1 0 is.0 (omega (arith, e, known.figs.many)) (omega (arith, e));
  }

pub totes_lawful : (C k K : ℕ) → 1 ≤ C → C ≤ 1000000 → 2 ≤ k → k ≤ 12 → k ≤ K → K ≤ 50 → Lawful (totes C k K)
totes_lawful C k K some most many few low high = totes_by_lawful (measures C k some most many few) low high
