-- The harmonic bound: what fits one capacity weighs at most the ceiling. Assumes nothing.
use Rattle.std.proofs.Common.{◌≡◌, ℕ, ◌+◌, ◌-◌, ◌*◌, ◌<◌, ◌≤◌, min, ◌⊎◌, List, [], ◌∷◌, get_or, sum_by, ap, subst, inl, inr, mul-le-mul_right, mul-le-mul_left, mul-pos, arith, All}
use Rattle.std.proofs.Math.Nat.{le_of_mul-le-mul_left}
use Rattle.std.proofs.lemmas.List.Elements.{All-nil, All-cons, All-head, All-tail}
use Rattle.std.proofs.lemmas.List.Sums.{sum_by-cons, get_or-le-sum_by}
use Rattle.std.proofs.lemmas.Bool.{cases_lt, cases_eq}
use Rattle.kinds.specs.Factors.{Figures}

-- m times a weight against the length, for a piece below the last class, and in it

below_slope : (m c w u C a : ℕ) → 1 ≤ c → m ≤ c → c * w ≡ u * C → C ≤ (c + 1) * a → m * w ≤ u * (m + 1) * a
below_slope m c w u C a s l e h = le_of_mul-le-mul_left {k = c} (omega (arith, mul-le-mul_left (m * u) h, ap (λ n. m * n) e, mul-le-mul_right (u * a) l)) s

last_slope : (m k L u a : ℕ) → m < k → u + L ≡ k * L → m * (k * L * a) ≤ u * (m + 1) * a
last_slope m k L u a l e = omega (arith, mul-le-mul_right (L * a) l, ap (λ n. n * (m * a)) e, ap (λ n. n * a) e)

-- the sum without the piece that is taken out
left_over : (t a r C : ℕ) → 1 ≤ t → C < (t + 1) * a → t * (a + r) ≤ C → t * (t + 1) * r < C
left_over t a r C s h l = omega (arith, mul-le-mul_left t h, mul-le-mul_left (t + 1) l)

with_one : (t N M u C w v : ℕ) → 1 ≤ t → t * w ≡ u * C → 42 * v ≤ N * C → 42 * u + t * N ≤ t * M → 42 * (w + v) ≤ M * C
with_one t N M u C w v s e h l = le_of_mul-le-mul_left {k = t} (omega (arith, mul-le-mul_left t h, mul-le-mul_right C l)) s

with_none : (t m M u C v a : ℕ) → 1 ≤ t → 1 ≤ m → m * v ≤ u * (m + 1) * a → t * a ≤ C → 42 * (u * (m + 1)) ≤ M * (t * m) → 42 * v ≤ M * C
with_none t m M u C v a s o h l k = le_of_mul-le-mul_left {k = t * m} (omega (arith, mul-le-mul_left (42 * t) h, mul-le-mul_left (42 * (u * (m + 1))) l, mul-le-mul_right C k)) (mul-pos s o)

at_last : (m k L u C v a : ℕ) → 1 ≤ m → m + 1 ≡ k → u + L ≡ k * L → m * v ≤ u * (m + 1) * a → 42 * a ≤ C → 42 * v ≤ k * L * C
at_last m k L u C v a s i e h l =
    let f : u ≡ m * L = omega (arith, ap (λ n. n * L) i) in
    let g : m * v ≤ m * (L * k * a) = omega (arith, ap (λ n. n * ((m + 1) * a)) f, ap (λ n. m * L * n * a) i) in
    let w : v ≤ L * k * a = le_of_mul-le-mul_left {k = m} g s in
    omega (arith, mul-le-mul_left (L * k) l)

-- things with a class, a weight and a length, against a capacity and k classes
module _ {X : Type 0} (j w a : X → ℕ) (C k L u : ℕ) where
  pub record Harmonic (x : X) : Type 0 where
    pub some : 1 ≤ j x
    pub most : j x ≤ k
    pub long : j x < k → C < (j x + 1) * a x
    pub share : j x < k → j x * w x ≡ u * C
    pub last : j x ≡ k → w x ≡ k * L * a x

  -- of class t or a later one, or of the last
  abbrev pub Past : ℕ → X → Type 0
  Past t x = j x < k → t ≤ j x

  slope_one : u + L ≡ k * L → (m : ℕ) (x : X) → m < k → Harmonic x → Past m x → m * w x ≤ u * (m + 1) * a x
  slope_one lasts m x l h p =
      elim (cases_lt (j x) k) [
        | inl b ↦ below_slope m (j x) (w x) u C (a x) h.some (p b) (h.share b) (omega (arith, h.long b))
        | inr b ↦
            let e : j x ≡ k = omega (arith, h.most) in
            rw (h.last e) (last_slope m k L u (a x) l lasts)
      ]

  slope : u + L ≡ k * L → (m : ℕ) → m < k → (xs : List X) → All Harmonic xs → All (Past m) xs → m * sum_by w xs ≤ u * (m + 1) * sum_by a xs
  slope lasts m l [] h p = omega arith
  slope lasts m l (x ∷ xs) h p =
      omega (arith, ap (λ n. m * n) (sum_by-cons w x xs), ap (λ n. u * (m + 1) * n) (sum_by-cons a x xs), slope_one lasts m x l (All-head Harmonic x xs h) (All-head (Past m) x xs p), slope lasts m l xs (All-tail Harmonic x xs h) (All-tail (Past m) x xs p))

  -- a piece of class t, and the others
  record Out (P : X → Type 0) (t : ℕ) (xs : List X) : Type 0 where
    one : X
    others : List X
    is : j one ≡ t
    holds : P one
    all : All P others
    sums : (f : X → ℕ) → sum_by f xs ≡ f one + sum_by f others

  take_out : (P : X → Type 0) (t : ℕ) (xs : List X) → All P xs → Out P t xs ⊎ All (λ x. j x ≡ t → ⊥) xs
  take_out P t [] h = inr (All-nil (λ x. j x ≡ t → ⊥))
  take_out P t (x ∷ xs) h =
      elim (cases_eq (j x) t) [
        | inl e ↦ inl (record { one = x; others = xs; is = e; holds = All-head P x xs h; all = All-tail P x xs h; sums = λ f. sum_by-cons f x xs })
        | inr n ↦
            elim (take_out P t xs (All-tail P x xs h)) [
              | inl o ↦ inl (record { one = o.one; others = x ∷ o.others; is = o.is; holds = o.holds; all = All-cons P x o.others (All-head P x xs h) o.all; sums = λ f. omega (arith, sum_by-cons f x xs, o.sums f, sum_by-cons f x o.others) })
              | inr b ↦ inr (All-cons (λ y. j y ≡ t → ⊥) x xs n b)
            ]
      ]

  -- short things are of late classes
  short_past : (t : ℕ) (xs : List X) → All Harmonic xs → t * sum_by a xs < C → All (Past t) xs
  short_past t xs h l i d s b =
      let x : X = get_or xs i d in
      elim (cases_lt (j x) t) [
        | inl c ↦ absurd (omega (arith, (h i d s).long b, mul-le-mul_right (a x) c, mul-le-mul_left t (get_or-le-sum_by a xs i d s)))
        | inr c ↦ c
      ]

  next_past : (t m : ℕ) (xs : List X) → m ≤ t + 1 → All (Past t) xs → All (λ x. j x ≡ t → ⊥) xs → All (Past m) xs
  next_past t m xs l p n i d s b = let c : t ≤ j (get_or xs i d) = p i d s b in let e : j (get_or xs i d) ≡ t → ⊥ = n i d s in omega arith

  none_past : (t m : ℕ) (xs : List X) → k ≤ t → All (Past t) xs → All (Past m) xs
  none_past t m xs l p i d s b = absurd (omega (arith, p i d s b))

  -- things from class t on that fit t times weigh at most N of 42 parts of a capacity
  abbrev pub Light : ℕ → ℕ → Type 0
  Light t N = (xs : List X) → All Harmonic xs → All (Past t) xs → t * sum_by a xs ≤ C → 42 * sum_by w xs ≤ N * C

  light_last : u + L ≡ k * L → (m : ℕ) → 1 ≤ m → m + 1 ≡ k → k ≤ 42 → Light 42 (k * L)
  light_last lasts m s i f xs h p l = at_last m k L u C (sum_by w xs) (sum_by a xs) s i lasts (slope lasts m (omega arith) xs h (none_past 42 m xs f p)) l

  light_step : u + L ≡ k * L → (t m N M : ℕ) → 1 ≤ t → 1 ≤ m → m < k → m ≤ t + 1 → 42 * (u * (m + 1)) ≤ M * (t * m) → 42 * u + t * N ≤ t * M → Light (t * (t + 1)) N → Light t M
  light_step lasts t m N M s o b c test fall rest xs h p l =
      elim (cases_lt t k) [
        | inl below ↦
            elim (take_out Harmonic t xs h) [
              | inl q ↦
                  let e = q.is in
                  let y = q.one in
                  let long : C < (t + 1) * a y = subst (λ n. C < (n + 1) * a y) e (q.holds.long (omega arith)) in
                  let share : t * w y ≡ u * C = subst (λ n. n * w y ≡ u * C) e (q.holds.share (omega arith)) in
                  let less : t * (t + 1) * sum_by a q.others < C = left_over t (a y) (sum_by a q.others) C s long (subst (λ n. t * n ≤ C) (q.sums a) l) in
                  rw (q.sums w)
                  (with_one t N M u C (w y) (sum_by w q.others) s share (rest q.others q.all (short_past (t * (t + 1)) q.others q.all less) (omega arith)) fall)
              | inr n ↦ with_none t m M u C (sum_by w xs) (sum_by a xs) s o (slope lasts m b xs h (next_past t m xs c p n)) l test
            ]
        | inr over ↦ with_none t m M u C (sum_by w xs) (sum_by a xs) s o (slope lasts m b xs h (none_past t m xs over p)) l test
      ]

  pub light : {p : ℕ} → Figures k L u p → (xs : List X) → All Harmonic xs → sum_by a xs ≤ C → sum_by w xs ≤ p * C
  light {p} f xs h l =
      let all_three : 70 * u + k * L ≤ 42 * p = f.all_three in
      let lasts : u + L ≡ k * L = f.lasts in
      let many : 2 ≤ k = f.many in
      let few : k ≤ 12 = f.few in
      let from_last = light_last lasts (k - 1) (omega arith) (omega arith) (omega arith) in
      let from-sixth = light_step lasts 6 (min 7 (k - 1)) (k * L) (42 * p - 63 * u) (omega arith) (omega arith) (omega arith) (omega arith) f.no_sixth (omega arith) from_last in
      let from_Second = light_step lasts 2 (min 3 (k - 1)) (42 * p - 63 * u) (42 * p - 42 * u) (omega arith) (omega arith) (omega arith) (omega arith) f.no_second (omega arith) from-sixth in
      let from_First = light_step lasts 1 (min 2 (k - 1)) (42 * p - 42 * u) (42 * p) (omega arith) (omega arith) (omega arith) (omega arith) f.no_first (omega arith) from_Second in
      let most : 42 * sum_by w xs ≤ 42 * p * C = from_First xs h (λ i d s b. (h i d s).some) (omega arith) in
      omega arith
