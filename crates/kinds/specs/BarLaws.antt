-- Bars are lawful. Assumes nothing.
use Rattle.std.proofs.Common.{◌≡◌, ℕ, ◌+◌, ◌*◌, ◌/◌, ◌%◌, ◌^◌, ◌<◌, ◌≤◌, min, Bool, true, false, cond, not, ◌&&◌, eqb, ltb, leb, List, [], ◌∷◌, ◌++◌, length, Some, None, sum_by, sym, refl, ap, ◌∙◌, subst, inl, inr, mul-le-mul_right, mul-le-mul, mul-le-mul_left, mul-pos, div-mul-le_self, arith, length-append, All}
use Rattle.std.proofs.Math.Nat.{le_of_mul-le-mul_left, lt-div-mul-add, mul-div_cancel', dvd-mul_right_of_dvd, dvd_of_mod-eq-zero}
use Rattle.std.proofs.lemmas.Nat.{le-div}
use Rattle.std.proofs.lemmas.List.Sums.{sum_by_push}
use Rattle.std.proofs.lemmas.List.Elements.{All-nil, All-push, All-weaker}
use Rattle.std.proofs.lemmas.Bool.{cases_lt, cases_Bool, lt-ltb, le-ltb, cond-true, cond-false}
use Rattle.std.proofs.lemmas.Bool.Decides.{nat_tests}
use Rattle.kinds.specs.declared.piece.Piece.{Piece}
use Rattle.refusals.specs.declared.PieceRefusal.TheVariants.{Finish, First, Second}
use Rattle.kinds.specs.Kind.{Meaning, Lawful, Admitted, ClassOf, Built, one_more, none_yet, level, weights, full_with, fits_after, between}
use Rattle.kinds.specs.Figures.{multiple, unit_factor, ceiling_factor}
use Rattle.kinds.specs.Bars.{bar_refusal, bars_by, bars}
use Rattle.kinds.specs.Factors.{Figures, figures}
use Rattle.kinds.specs.Light.{Harmonic, light}
use Rattle.kinds.specs.Told.{told_yes, told_no, told_same, is_between, not_between, above}

-- Numbers

-- the whole part of u · C by a class
share_of : (j u C : ℕ) → 1 ≤ j → u % j ≡ 0 → j * (u * C / j) ≡ u * C
share_of j u C s e = mul-div_cancel' j (dvd-mul_right_of_dvd j (dvd_of_mod-eq-zero j e) C)

-- the class of a length
record Length (C k a c : ℕ) : Type 0 where
  some : 1 ≤ c
  most : c ≤ k
  goes_in : c * a ≤ C
  long : c < k → C < (c + 1) * a

length_class : (C k a : ℕ) → 1 ≤ k → 1 ≤ a → a ≤ C → Length C k a (min k (C / a))
length_class C k a s o l =
    let q : 1 ≤ C / a = le-div 1 C a o (omega arith) in
    let h : min k (C / a) ≤ C / a = omega arith in
    record {
      some = omega arith;
      most = omega arith;
      goes_in = omega (arith, mul-le-mul_right a h, div-mul-le_self C a);
      long = λ b. let e : min k (C / a) ≡ C / a = omega arith in omega (arith, lt-div-mul-add {a = C} o, ap (λ n. (n + 1) * a) e);
    }

-- heavy enough: by a count of shares, and by a level that a last-class piece passes
by_count : (c n W V : ℕ) → 1 ≤ c → c ≤ n → c * W ≡ n * V → V ≤ W
by_count c n W V s l e = le_of_mul-le-mul_left {k = c} (omega (arith, mul-le-mul_right V l)) s

by_level : (k L u C l a : ℕ) → u + L ≡ k * L → k * a ≤ C → C < l + a → u * C ≤ k * L * l
by_level k L u C l a e h o = omega (arith, mul-le-mul_left (k * L) o, mul-le-mul_left L h, ap (λ n. n * C) e)

-- Tests

-- the fit of a piece that brings the level to x, in class c and at count n
module _ (C k c n x : ℕ) where
  abbrev pub bar_fit : Bool
  bar_fit = between 1 k c && cond (ltb c k) (ltb n c) (leb x C)

  fit_below : bar_fit ≡ true → c < k → n < c
  fit_below e l = grind (arith, nat_tests)

  fit_last : bar_fit ≡ true → k ≤ c → x ≤ C
  fit_last e l = grind (arith, nat_tests)

  unfit_below : 1 ≤ c → bar_fit ≡ false → c < k → c ≤ n
  unfit_below s e l = grind (arith, nat_tests)

  unfit_last : 1 ≤ c → bar_fit ≡ false → c ≡ k → C < x
  unfit_last s e l = grind (arith, nat_tests)

  does_fit : 1 ≤ c → c ≤ k → n < c → x ≤ C → bar_fit ≡ true
  does_fit s l a b = grind (arith, nat_tests)

module _ (k c n : ℕ) where
  full_then : (between 1 k c && (ltb c k && leb c n)) ≡ true → (1 ≤ c) × (c < k) × (c ≤ n)
  full_then e = (grind (arith, nat_tests), grind (arith, nat_tests), grind (arith, nat_tests))

  is_full : 1 ≤ c → c < k → c ≤ n → (between 1 k c && (ltb c k && leb c n)) ≡ true
  is_full s l h = grind (arith, nat_tests)

  not_full : n < c → (between 1 k c && (ltb c k && leb c n)) ≡ false
  not_full h = grind (arith, nat_tests)

sized : (C : ℕ) (q : Piece) → bar_refusal C q ≡ None → (1 ≤ q.first) × (q.first ≤ C)
sized C q a = (grind (arith, nat_tests), grind (arith, nat_tests))

-- Bars

-- a capacity in its range, with the figures of a class number
pub record Measures (C k L u p : ℕ) : Type 0 where
  pub low : 1 ≤ C
  pub high : C ≤ 1000000
  pub figs : Figures k L u p

module _ {C k L u p : ℕ} (known : Measures C k L u p) where
  abbrev M : Meaning
  M = bars_by C k L u p

  -- what an admitted piece is
  pub record Bar (q : Piece) : Type 0 where
    pub first_some : 1 ≤ q.first
    pub first_most : q.first ≤ C
    pub load_is : M.load q ≡ q.first
    pub is_class : ClassOf M (M.class q)
    pub goes_in : M.class q * q.first ≤ C
    pub harmonic : Harmonic M.class M.weight (λ q. q.first) C k L u q

  pub bar : (q : Piece) → Admitted M q → Bar q
  bar q a =
      let z = sized C q a in
      let c : ℕ = M.class q in
      let is : c ≡ min k (C / q.first) = told_yes _ _ _ a in
      let l : Length C k q.first c = rw is (length_class C k q.first (omega (arith, known.figs.many)) z.0 z.1) in
      let weight_is : M.weight q ≡ cond (ltb c k) (u * C / c) (k * L * q.first) = told_yes _ _ _ a in
      record {
        first_some = z.0;
        first_most = z.1;
        load_is = told_yes _ _ _ a;
        is_class = (l.some, l.most);
        goes_in = l.goes_in;
        harmonic = record {
          some = l.some;
          most = l.most;
          long = l.long;
          share = λ b. ap (λ n. c * n) (weight_is ∙ cond-true (ltb c k) _ _ (lt-ltb c k b)) ∙ share_of c u C l.some (known.figs.whole c l.some b);
          last = λ e. weight_is ∙ cond-false (ltb c k) _ _ (le-ltb c k (omega (arith, e)));
        };
      }

  pub fit_is : (c n l : ℕ) (q : Piece) → Admitted M q → M.fits c n l q ≡ bar_fit C k c n (l + q.first)
  fit_is c n l q a = told_yes _ _ _ a

  -- what a bar so built holds
  pub record Holds (c : ℕ) (ps : List Piece) : Type 0 where
    pub is_class : 0 < length ps → ClassOf M c
    pub admitted : All (Admitted M) ps
    pub one_class : All (λ q. M.class q ≡ c) ps
    pub level_is : level M ps ≡ sum_by (λ q. q.first) ps
    pub level_most : level M ps ≤ C
    pub shares : c * level M ps ≤ length ps * C
    pub by_shares : c < k → c * weights M ps ≡ length ps * (u * C)
    pub by_lengths : c ≡ k → weights M ps ≡ k * L * level M ps

  pub holds : {c : ℕ} {ps : List Piece} → Built M c ps → Holds c ps
  holds {c} none_yet = record {
    is_class = λ s. absurd (omega arith);
    admitted = All-nil (Admitted M);
    one_class = All-nil (λ q. M.class q ≡ c);
    level_is = refl;
    level_most = omega arith;
    shares = omega arith;
    by_shares = λ b. omega arith;
    by_lengths = λ e. omega arith;
  }
  holds {c} (one_more {ps = ps} {p = q} b a e nf ft) =
      let h = holds b in
      let z : Bar q = bar q a in
      let is : ClassOf M c = subst (ClassOf M) e z.is_class in
      let fit : bar_fit C k c (length ps) (level M ps + q.first) ≡ true = sym (fit_is c (length ps) (level M ps) q a) ∙ ft in
      let lv : level M (ps ++ (q ∷ [])) ≡ level M ps + q.first = sum_by_push M.load ps q ∙ ap (λ n. level M ps + n) z.load_is in
      let wt : weights M (ps ++ (q ∷ [])) ≡ weights M ps + M.weight q = sum_by_push M.weight ps q in
      let ln : length (ps ++ (q ∷ [])) ≡ length ps + 1 = length-append ps (q ∷ []) in
      let in_c : c * q.first ≤ C = subst (λ n. n * q.first ≤ C) e z.goes_in in
      let shared : c * level M (ps ++ (q ∷ [])) ≤ length (ps ++ (q ∷ [])) * C = omega (arith, ap (λ n. c * n) lv, ap (λ n. n * C) ln, h.shares) in
      record {
        is_class = λ s. is;
        admitted = All-push (Admitted M) ps q h.admitted a;
        one_class = All-push (λ q. M.class q ≡ c) ps q h.one_class e;
        level_is = omega (arith, sum_by_push (λ q. q.first) ps q, h.level_is);
        level_most = elim (cases_lt c k) [
          | inl l ↦ le_of_mul-le-mul_left {k = c} (omega (arith, mul-le-mul_right C (fit_below C k c (length ps) (level M ps + q.first) fit l), ap (λ n. n * C) ln)) is.0
          | inr l ↦ omega (arith, fit_last C k c (length ps) (level M ps + q.first) fit l)
        ];
        shares = shared;
        by_shares = λ l. omega (arith, h.by_shares l, ap (λ n. c * n) wt, ap (λ n. n * (u * C)) ln, subst (λ n. n * M.weight q ≡ u * C) e (z.harmonic.share (omega (arith, e))));
        by_lengths = λ i. omega (arith, h.by_lengths i, ap (λ n. k * L * n) lv, z.harmonic.last (e ∙ i));
      }

  pub in_class : (c : ℕ) → ClassOf M c → between 1 k c ≡ true
  in_class c h = is_between 1 k c h.0 h.1

  pub out_class : (c : ℕ) → (ClassOf M c → ⊥) → between 1 k c ≡ false
  out_class c h = not_between 1 k c h

  pub cost_one : (c : ℕ) → ClassOf M c → M.cost c ≡ 1
  cost_one c h = cond-true (between 1 k c) 1 0 (in_class c h)

  -- only the first class has no standing cost
  pub standing_none : (c : ℕ) → ClassOf M c → M.standing c ≡ 0 → c ≡ 1
  standing_none c h z = grind (arith, nat_tests)

  pub count_heavy : {c : ℕ} {ps : List Piece} → Built M c ps → 1 ≤ c → c < k → c ≤ length ps → u * C ≤ weights M ps
  count_heavy {c} {ps} b s l f = by_count c (length ps) (weights M ps) (u * C) s f ((holds b).by_shares l)

  pub level_heavy : {c : ℕ} {ps : List Piece} → Built M c ps → c ≡ k → (q : Piece) → Admitted M q → M.class q ≡ c → C < level M ps + q.first → u * C ≤ weights M ps
  level_heavy {c} {ps} b i q a e o =
      rw ((holds b).by_lengths i) (by_level k L u C (level M ps) q.first known.figs.lasts (subst (λ n. n * q.first ≤ C) (e ∙ i) (bar q a).goes_in) o)

  at_cost : (c W : ℕ) → ClassOf M c → u * C ≤ W → u * C * M.cost c ≤ W
  at_cost c W h l = rw (cost_one c h) (omega (arith, l))

  full : (c : ℕ) (ps : List Piece) → Built M c ps → full_with M c ps ≡ true → u * C * M.cost c ≤ weights M ps
  full c ps b f =
      let t = full_then k c (length ps) f in
      at_cost c (weights M ps) (t.0, omega (arith, t.1)) (count_heavy b t.0 t.1 t.2)

  unfit : (c : ℕ) (ps : List Piece) (q : Piece) → Built M c ps → Admitted M q → M.class q ≡ c → fits_after M c ps q ≡ false → u * C * M.cost c ≤ weights M ps
  unfit c ps q b a e f =
      let is : ClassOf M c = subst (ClassOf M) e (bar q a).is_class in
      let un : bar_fit C k c (length ps) (level M ps + q.first) ≡ false = sym (fit_is c (length ps) (level M ps) q a) ∙ f in
      at_cost c (weights M ps) is (elim (cases_lt c k) [
        | inl l ↦ count_heavy b is.0 l (unfit_below C k c (length ps) (level M ps + q.first) is.0 un l)
        | inr l ↦ let i : c ≡ k = omega (arith, is.1) in level_heavy b i q a e (unfit_last C k c (length ps) (level M ps + q.first) is.0 un i)
      ])

  -- what a unit and a piece weigh

  pub lcm_below : L ≤ u
  lcm_below = omega (arith, mul-le-mul_right L known.figs.many, known.figs.lasts)

  pub unit_some : 1 ≤ u * C
  unit_some = mul-pos (omega (arith, lcm_below, known.figs.lcm_some)) known.low

  pub unit_most : u * C ≤ 304920 * 1000000
  unit_most = mul-le-mul known.figs.unit_most known.high

  pub weight_some : (q : Piece) → Admitted M q → 1 ≤ M.weight q
  weight_some q a =
      let y = (bar q a).harmonic in
      elim (cases_lt (M.class q) k) [
        | inl l ↦ elim (cases_lt 0 (M.weight q)) [
          | inl s ↦ s
          | inr z ↦ absurd (let e : M.weight q ≡ 0 = omega arith in omega (arith, y.share l, ap (λ n. M.class q * n) e, unit_some))
        ]
        | inr l ↦ rw (y.last (omega (arith, y.most))) (mul-pos (mul-pos (omega (arith, known.figs.many)) known.figs.lcm_some) (bar q a).first_some)
      ]

  pub weight_most : (q : Piece) → Admitted M q → M.weight q ≤ u * C
  weight_most q a =
      let y = (bar q a).harmonic in
      elim (cases_lt (M.class q) k) [
        | inl l ↦ omega (arith, y.share l, mul-le-mul_right (M.weight q) y.some)
        | inr l ↦
            let e : M.class q ≡ k = omega (arith, y.most) in
            let g : k * q.first ≤ C = subst (λ n. n * q.first ≤ C) e (bar q a).goes_in in
            omega (arith, y.last e, mul-le-mul_left L g, mul-le-mul_right C lcm_below)
      ]

  pub bars_light : (ps : List Piece) → All (Admitted M) ps → sum_by (λ q. q.first) ps ≤ C → weights M ps ≤ p * C
  bars_light ps h l = light M.class M.weight (λ q. q.first) C k L u known.figs ps (All-weaker _ _ (λ q a. (bar q a).harmonic) ps h) l

  pub bars_by_lawful : Lawful (bars_by C k L u p)
  bars_by_lawful = record {
    some_class = omega (arith, known.figs.many);
    few_classes = omega (arith, known.figs.few);
    admitted_has_class = λ q a. (bar q a).is_class;
    refused_tells_nothing = λ q h. (told_no _ _ _ h, told_no _ _ _ h, told_no _ _ _ h, λ c n l. told_no _ _ _ h);
    no_class_tells_nothing = λ c h. let e = out_class c h in (rw e, rw e, λ n l. rw e, λ n l q. rw e (told_same (M.refusal q) false));
    first_zero_refused = λ q z a. omega (arith, (bar q a).first_some);
    first_over_refused_as_zero = λ q o. ap (λ b. cond (not (eqb q.finish 0)) (Some Finish) (cond (not b) (Some First) (cond (not (eqb q.second 0)) (Some Second) None))) (above 1 C q.first (omega (arith, known.high)));
    weight_range = λ q a. (weight_some q a, omega (arith, weight_most q a, unit_most));
    load_range = λ q a. rw ((bar q a).load_is) ((bar q a).first_some, omega (arith, (bar q a).first_most, known.high));
    unit_some = unit_some;
    cost_range = λ c h. (omega (arith, cost_one c h), at_cost c (2 ^ 44) h (omega (arith, unit_most)));
    ceiling_range = (mul-pos (omega (arith, known.figs.all_three, lcm_below, known.figs.lcm_some)) known.low, omega (arith, mul-le-mul known.figs.factor_most known.high));
    standing_none_or_cost = λ c h. elim (cases_Bool (eqb c 1)) [ inl e ↦ inl (rw (e, in_class c h)) | inr e ↦ inr (rw (e, in_class c h)) ];
    empty_takes = λ q a. let z = bar q a in fit_is (M.class q) 0 0 q a ∙ does_fit C k (M.class q) 0 (0 + q.first) z.is_class.0 z.is_class.1 z.is_class.0 (omega (arith, z.first_most));
    empty_not_full = λ c h. not_full k c 0 h.0;
    built_allowed = λ c ps some b. let h = holds b in ((cost_one c (h.is_class some), h.admitted, omega (arith, h.level_is, h.level_most)), omega (arith, h.level_most, known.high));
    full_weighs_enough = full;
    unfit_weighs_enough = unfit;
    allowed_admitted = λ ps h l a. a.1;
    allowed_weighs_at_most = λ ps h l a. omega (arith, bars_light ps a.1 a.2, ap (λ n. p * C * n) a.0);
    full_after_first = λ q a z.
        let is = (bar q a).is_class in
        let e : M.class q ≡ 1 = standing_none (M.class q) is z in
        is_full k (M.class q) 1 is.0 (omega (arith, e, known.figs.many)) (omega (arith, e));
  }

-- what a bar's own invariant says
pub measures : (C k : ℕ) → 1 ≤ C → C ≤ 1000000 → 2 ≤ k → k ≤ 12 → Measures C k (multiple k) (unit_factor k) (ceiling_factor k)
measures C k some most many few = record { low = some; high = most; figs = figures k many few }

pub bars_lawful : (C k : ℕ) → 1 ≤ C → C ≤ 1000000 → 2 ≤ k → k ≤ 12 → Lawful (bars C k)
bars_lawful C k some most many few = bars_by_lawful (measures C k some most many few)
