-- Fields written are read, and fields read were written, at any widths and values.
use Rattle.std.proofs.Common.{All, ◌≡◌, ℕ, ◌+◌, ◌*◌, ◌/◌, ◌%◌, ◌^◌, ◌<◌, ◌≤◌, Bool, true, false, cond, eqb, ltb, List, [], ◌∷◌, ◌++◌, length, take, drop, Ok, Err, Result, sym, refl, ap, ◌∙◌, ⊎_elim, append_assoc, pow-suc, arith, length-append, length-drop, take-add}
use native.Mathlib.Nat.{pow-le-pow_right}
use Rattle.std.specs.Int.Digits.{number_from_digits}
use Rattle.std.proofs.lemmas.Int.Digits.{number_lt}
use Rattle.std.proofs.lemmas.List.{append-nil, take_at, drop_at, length-take-le}
use Rattle.std.proofs.lemmas.List.Elements.{All-take, All-drop, recursion_from_All}
use Rattle.std.proofs.lemmas.Bool.{cond-true, cond-false, eq-eqb, ne_eqb, le-ltb, eqb-false, ltb-false, cases_eq}
use Rattle.refusals.specs.declared.ReadRefusal.{ReadRefusal}
use Rattle.refusals.specs.declared.ReadRefusal.TheVariants.{Ended, Zero}
use Rattle.archive.specs.Fields.{bytes_of, mask, written, Fit, fields}
use Rattle.archive.proofs.Numbers.{length_bytes_of, number_bytes_of, bytes_of_number, mask_without, mask_with, written_without, written_with}

-- one field, by what the map says of it
module _ (done : List ℕ) (w : ℕ) (ws : List ℕ) (m at : ℕ) (bs : List ℕ) where
  abbrev value : ℕ
  value = number_from_digits 256 (take w bs)

  abbrev after : Result (List ℕ × ℕ) ReadRefusal
  after = fields (done ++ (value ∷ [])) ws (m / 2) (at + w) (drop w bs)

  pub absent : m % 2 ≡ 0 → fields done (w ∷ ws) m at bs ≡ fields (done ++ (0 ∷ [])) ws (m / 2) at bs
  absent e = cond-true _ _ _ (eq-eqb (m % 2) 0 e)

  pub present : (m % 2 ≡ 0 → ⊥) → fields done (w ∷ ws) m at bs ≡ cond (ltb (length bs) w) (Err (Ended at)) (cond (eqb value 0) (Err (Zero at)) after)
  present n = cond-false _ _ _ (ne_eqb (m % 2) 0 n)

  pub inside : (m % 2 ≡ 0 → ⊥) → w ≤ length bs → fields done (w ∷ ws) m at bs ≡ cond (eqb value 0) (Err (Zero at)) after
  inside n h = present n ∙ cond-false _ _ _ (le-ltb (length bs) w h)

  pub stands : (m % 2 ≡ 0 → ⊥) → w ≤ length bs → (value ≡ 0 → ⊥) → fields done (w ∷ ws) m at bs ≡ after
  stands n h e = inside n h ∙ cond-false _ _ _ (ne_eqb value 0 e)

-- a field that is written, and what stands behind it
without : (done : List ℕ) (w : ℕ) (ws : List ℕ) (v : ℕ) (vs : List ℕ) (m m' at : ℕ) (bs bs' : List ℕ) (n n' : ℕ) → v ≡ 0 → m ≡ 2 * m' → bs ≡ bs' → n ≡ n' → fields (done ++ (0 ∷ [])) ws m' at bs' ≡ Ok ((done ++ (0 ∷ [])) ++ vs, n') → fields done (w ∷ ws) m at bs ≡ Ok (done ++ (v ∷ vs), n)
without done w ws v vs m m' at bs bs' n n' zero-value twice same_bytes same_end ih =
    let half : m / 2 ≡ m' = omega arith in
    let s = absent done w ws m at bs (omega arith) in
    let a = append_assoc done (0 ∷ []) vs in
    cc

with : (done : List ℕ) (w : ℕ) (ws : List ℕ) (v : ℕ) (vs : List ℕ) (m m' at : ℕ) (bs front bs' : List ℕ) (n : ℕ) → (v ≡ 0 → ⊥) → m ≡ 1 + 2 * m' → bs ≡ front ++ bs' → length front ≡ w → number_from_digits 256 front ≡ v → fields (done ++ (v ∷ [])) ws m' (at + w) bs' ≡ Ok ((done ++ (v ∷ [])) ++ vs, n) → fields done (w ∷ ws) m at bs ≡ Ok (done ++ (v ∷ vs), n)
with done w ws v vs m m' at bs front bs' n some-value odd split wide is ih =
    let half : m / 2 ≡ m' = omega arith in
    let t : take w bs ≡ front = ap (take w) split ∙ take_at front bs' w wide in
    let d : drop w bs ≡ bs' = ap (drop w) split ∙ drop_at front bs' w wide in
    let v-is : number_from_digits 256 (take w bs) ≡ v = ap (number_from_digits 256) t ∙ is in
    let long : w ≤ length bs = omega (arith, ap length split, length-append front bs') in
    let s = stands done w ws m at bs (λ z. omega arith) long (λ z. some-value (sym v-is ∙ z)) in
    let a = append_assoc done (v ∷ []) vs in
    s ∙ (ap (λ x. fields (done ++ (x ∷ [])) ws (m / 2) (at + w) (drop w bs)) v-is ∙ (ap (λ x. fields (done ++ (v ∷ [])) ws x (at + w) (drop w bs)) half ∙ (ap (λ x. fields (done ++ (v ∷ [])) ws m' (at + w) x) d ∙ (ih ∙ ap (λ x. Ok (x, n)) a))))

-- what is written reads back
pub fields_written : (done ws vs : List ℕ) (at : ℕ) (rest : List ℕ) → Fit ws vs → fields done ws (mask vs) at (written ws vs ++ rest) ≡ Ok (done ++ vs, at + length (written ws vs))
fields_written done [] [] at rest fit = let a = append-nil done in let z : at + 0 ≡ at = omega arith in cc
fields_written done [] (v ∷ vs) at rest fit = absurd fit
fields_written done (w ∷ ws) [] at rest fit = absurd fit
fields_written done (w ∷ ws) (v ∷ vs) at rest fit =
    ⊎_elim
    (λ e.
    let t : written (w ∷ ws) (v ∷ vs) ≡ written ws vs = written_without w ws v vs e in
    without done w ws v vs _ (mask vs) at _ (written ws vs ++ rest) _ (at + length (written ws vs)) e
    (mask_without v vs e)
    (ap (λ x. x ++ rest) t)
    (ap (λ x. at + length x) t)
    (fields_written (done ++ (0 ∷ [])) ws vs at rest fit.1))
    (λ n.
    let t : written (w ∷ ws) (v ∷ vs) ≡ bytes_of w v ++ written ws vs = written_with w ws v vs n in
    let long : at + w + length (written ws vs) ≡ at + length (written (w ∷ ws) (v ∷ vs)) =
    omega (arith, ap length t, length-append (bytes_of w v) (written ws vs), length_bytes_of w v) in
    with done w ws v vs _ (mask vs) at _ (bytes_of w v) (written ws vs ++ rest) _ n
    (mask_with v vs n)
    (ap (λ x. x ++ rest) t ∙ append_assoc (bytes_of w v) (written ws vs) rest)
    (length_bytes_of w v)
    (number_bytes_of w v fit.0)
    (fields_written (done ++ (v ∷ [])) ws vs (at + w) rest fit.1 ∙ ap (λ x. Ok ((done ++ (v ∷ [])) ++ vs, x)) long))
    (cases_eq v 0)

-- a test whose one way refuses
pub not_refused : {X Y : Type 0} (b : Bool) (e : Y) (r : Result X Y) (x : X) → cond b (Err e) r ≡ Ok x → b ≡ false
not_refused true e r x h = let z : true ≡ false = cc in z
not_refused false e r x h = refl

-- what reads was written: the values vs, behind those already done, from the front of bs
pub record Told (done ws : List ℕ) (m at : ℕ) (bs all : List ℕ) (n : ℕ) (vs : List ℕ) : Type 0 where
  pub all_is : all ≡ done ++ vs
  pub fit : Fit ws vs
  pub mask_is : mask vs ≡ m
  pub end_is : n ≡ at + length (written ws vs)
  pub within : length (written ws vs) ≤ length bs
  pub front : take (length (written ws vs)) bs ≡ written ws vs

pub fields_told : (done ws : List ℕ) (m at : ℕ) (bs all : List ℕ) (n : ℕ) → All (λ b. b < 256) bs → m < 2 ^ length ws → fields done ws m at bs ≡ Ok (all, n) → (vs : List ℕ) × Told done ws m at bs all n vs
fields_told done [] m at bs all n u small e =
    let a = append-nil done in
    let z : at + 0 ≡ at = omega arith in
    let pair : ◌≡◌ {A = List ℕ × ℕ} (all, n) (done, at) = cc in
    let e1 : all ≡ done = ap (λ p. p.0) pair in
    let e2 : n ≡ at = ap (λ p. p.1) pair in
    ([], record { all_is = cc; fit = tt; mask_is = omega arith; end_is = cc; within = omega arith; front = refl })
fields_told done (w ∷ ws) m at bs all n u small e =
    let half : m / 2 < 2 ^ length ws = omega (arith, rw pow-suc at small) in
    ⊎_elim
    (λ even.
    let p = fields_told (done ++ (0 ∷ [])) ws (m / 2) at bs all n u half (sym (absent done w ws m at bs even) ∙ e) in
    let t = p.1 in
    let a = append_assoc done (0 ∷ []) p.0 in
    (0 ∷ p.0, record { all_is = cc; fit = (pow-le-pow_right {n = 256} (omega arith) {i = 0} {j = w} (omega arith), t.fit); mask_is = omega (arith, t.mask_is, mask_without 0 p.0 refl); end_is = t.end_is; within = t.within; front = t.front }))
    (λ odd.
    let x = number_from_digits 256 (take w bs) in
    let e1 = sym (present done w ws m at bs odd) ∙ e in
    let long : w ≤ length bs = ltb-false (length bs) w (not_refused _ _ _ _ e1) in
    let e2 = sym (inside done w ws m at bs odd long) ∙ e in
    let some : x ≡ 0 → ⊥ = eqb-false x 0 (not_refused _ _ _ _ e2) in
    let p = fields_told (done ++ (x ∷ [])) ws (m / 2) (at + w) (drop w bs) all n (All-drop (λ b. b < 256) w bs u) half (sym (stands done w ws m at bs odd long some) ∙ e) in
    let t = p.1 in
    let a = append_assoc done (x ∷ []) p.0 in
    let front_long : length (take w bs) ≡ w = length-take-le w bs long in
    let small_bytes = All-take (λ b. b < 256) w bs u in
    let bytes : bytes_of w x ≡ take w bs = bytes_of_number w (take w bs) front_long small_bytes in
    let below : x < 256 ^ w = rw front_long at (number_lt 256 (take w bs) (recursion_from_All (λ b. b < 256) (take w bs) small_bytes)) in
    let text : written (w ∷ ws) (x ∷ p.0) ≡ take w bs ++ written ws p.0 = written_with w ws x p.0 some ∙ ap (λ y. y ++ written ws p.0) bytes in
    let size : length (written (w ∷ ws) (x ∷ p.0)) ≡ w + length (written ws p.0) = ap length text ∙ (length-append (take w bs) (written ws p.0) ∙ ap (λ y. y + length (written ws p.0)) front_long) in (
      x ∷ p.0,
      record {
        all_is = cc;
        fit = (below, t.fit);
        mask_is = omega (arith, t.mask_is, mask_with x p.0 some);
        end_is = omega (arith, t.end_is, size);
        within = omega (arith, t.within, size, length-drop w bs);
        front = ap (λ y. take y bs) size ∙ (take-add w (length (written ws p.0)) bs ∙ (ap (λ y. take w bs ++ y) t.front ∙ sym text));
      },
    ))
    (cases_eq (m % 2) 0)
