-- The two theorems on whole lines: what is written reads back, and what reads was written. Assumes nothing.
use Rattle.std.proofs.Common.{◌≡◌, ℕ, suc, ◌+◌, ◌*◌, ◌/◌, ◌%◌, ◌^◌, ◌<◌, ◌≤◌, Bool, true, false, cond, eqb, List, [], ◌∷◌, ◌++◌, length, get_or, take, drop, Ok, Err, Result, sym, refl, ap, ◌∙◌, subst, inl, inr, arith, length-drop, take-add, pow_mono}
use Rattle.std.proofs.lemmas.List.{length-take-le}
use Rattle.std.proofs.lemmas.List.Elements.{All-take, All-drop}
use Rattle.std.proofs.lemmas.Bool.{cond-true, cond-false, le-ltb, lt-ltb, lt-leb, ltb-false, leb-false, cases_lt}
use Rattle.archive.specs.declared.line.PlaceLine.{PlaceLine}
use Rattle.archive.specs.declared.line.ClosingLine.{ClosingLine}
use Rattle.archive.specs.declared.line.HeadingLine.{HeadingLine}
use Rattle.archive.specs.declared.line.Line.{Line}
use Rattle.archive.specs.declared.line.Line.TheVariants.{Place, Closing, Heading}
use Rattle.refusals.specs.declared.ReadRefusal.{ReadRefusal}
use Rattle.archive.specs.Fields.{bytes_of, mask, written, map_bits, Fit, encoded, fields}
use Rattle.archive.specs.Lines.{place_fields, closing_fields, heading_fields, widths_of, values_of, tag, values, widths_by, Fits, encode, map_of, Parsed, of_sort, parsed, by_tag, decode, told, ReadsAs, Bytes, Front}
use Rattle.archive.proofs.Numbers.{number_bytes_of, bytes_of_number, mask_lt}
use Rattle.archive.proofs.Reading.{fields_written, fields_told, not_refused}

-- as many values as widths
pub fit_length : (ws vs : List ℕ) → Fit ws vs → length vs ≡ length ws
fit_length [] [] fit = refl
fit_length [] (v ∷ vs) fit = absurd fit
fit_length (w ∷ ws) [] fit = absurd fit
fit_length (w ∷ ws) (v ∷ vs) fit = ap suc (fit_length ws vs fit.1)

-- the map's value, behind which any bytes stand
pub mask_small : (ws vs : List ℕ) → Fit ws vs → length ws ≤ 14 → mask vs < map_bits
mask_small ws vs fit few =
    let few-values : length vs ≤ 14 = omega (arith, fit_length ws vs fit) in
    omega (arith, mask_lt vs, pow_mono few-values)

pub map_encoded : (t : ℕ) (ws vs rest : List ℕ) → t < 4 → Fit ws vs → length ws ≤ 14 → map_of (encoded t ws vs ++ rest) ≡ t * map_bits + mask vs
map_encoded t ws vs rest small fit few = number_bytes_of 2 (t * map_bits + mask vs) (omega (arith, mask_small ws vs fit few))

pub decode_encoded : (t : ℕ) (ws vs rest : List ℕ) → t < 4 → Fit ws vs → length ws ≤ 14 → decode (encoded t ws vs ++ rest) ≡ by_tag t (mask vs) (encoded t ws vs ++ rest)
decode_encoded t ws vs rest small fit few =
    let bs : List ℕ = encoded t ws vs ++ rest in
    let m = map_encoded t ws vs rest small fit few in
    let below = mask_small ws vs fit few in
    let q : map_of bs / map_bits ≡ t = omega (arith, m, below) in
    let r : map_of bs % map_bits ≡ mask vs = omega (arith, m, below) in
    let long : 2 ≤ length bs = omega arith in
    cond-false _ _ _ (le-ltb (length bs) 2 long) ∙ (ap (λ x. by_tag x (map_of bs % map_bits) bs) q ∙ ap (λ x. by_tag t x bs) r)

-- the fields of every sort have bits of their own
few_fields : (t : ℕ) → length (widths_by t) ≤ 14
few_fields t = few (eqb t 0) (eqb t 1)
  where
    few : (a b : Bool) → length (cond a (widths_of place_fields) (cond b (widths_of closing_fields) (widths_of heading_fields))) ≤ 14
    few true b = omega arith
    few false true = omega arith
    few false false = omega arith

few_sorts : (l : Line) → tag l < 3
few_sorts (Place l) = omega arith
few_sorts (Closing l) = omega arith
few_sorts (Heading l) = omega arith

parsed_encoded : (t : ℕ) (vs rest : List ℕ) → Fit (widths_by t) vs → parsed t (mask vs) (encoded t (widths_by t) vs ++ rest) ≡ Ok ((t, vs), length (encoded t (widths_by t) vs))
parsed_encoded t vs rest fit =
    let ws : List ℕ = widths_by t in
    let few : mask vs < 2 ^ length ws = rw (fit_length ws vs fit) at (mask_lt vs) in
    let e = fields_written [] ws vs 2 rest fit in
    let size : 2 + length (written ws vs) ≡ length (encoded t ws vs) = omega arith in
    cond-false _ _ _ (lt-leb (2 ^ length ws) (mask vs) few) ∙ (ap (of_sort t) e ∙ ap (λ n. Ok ((t, vs), n)) size)

-- What is written parses, whatever follows.
pub written_parses : (l : Line) (rest : List ℕ) → Fits l → decode (encode l ++ rest) ≡ Ok ((tag l, values l), length (encode l))
written_parses l rest fit =
    decode_encoded (tag l) (widths_by (tag l)) (values l) rest (omega (arith, few_sorts l)) fit (few_fields (tag l))
    ∙ (cond-true _ _ _ (lt-ltb (tag l) 3 (few_sorts l)) ∙ parsed_encoded (tag l) (values l) rest fit)

-- a line by its sort and its values

same_place : (l m : PlaceLine) → values_of place_fields l ≡ values_of place_fields m → l ≡ m
same_place l m e = ap (λ v. record { number = get_or v 0 0; first = get_or v 1 0; second = get_or v 2 0; finish = get_or v 3 0; container = get_or v 4 0; class = get_or v 5 0 }) e

same_closing : (l m : ClosingLine) → values_of closing_fields l ≡ values_of closing_fields m → l ≡ m
same_closing l m e = ap (λ v. record { container = get_or v 0 0; class = get_or v 1 0; pieces = get_or v 2 0; level = get_or v 3 0; weight = get_or v 4 0; used = get_or v 5 0; floor = get_or v 6 0 }) e

same_heading : (l m : HeadingLine) → values_of heading_fields l ≡ values_of heading_fields m → l ≡ m
same_heading l m e = ap (λ v. record { code = get_or v 0 0; capacity = get_or v 1 0; k = get_or v 2 0; limit = get_or v 3 0; allowance = get_or v 4 0; finishes = get_or v 5 0; unit = get_or v 6 0; ceiling = get_or v 7 0; standing = get_or v 8 0 }) e

apart : {X : Type 0} → (a b : ℕ) → (a ≡ b → ⊥) → a ≡ b → X
apart a b n e = absurd (n e)

pub same_line : (l m : Line) → tag l ≡ tag m → values l ≡ values m → l ≡ m
same_line (Place l) (Place m) t e = ap Place (same_place l m e)
same_line (Place l) (Closing m) t e = apart 0 1 (λ z. omega arith) t
same_line (Place l) (Heading m) t e = apart 0 2 (λ z. omega arith) t
same_line (Closing l) (Place m) t e = apart 1 0 (λ z. omega arith) t
same_line (Closing l) (Closing m) t e = ap Closing (same_closing l m e)
same_line (Closing l) (Heading m) t e = apart 1 2 (λ z. omega arith) t
same_line (Heading l) (Place m) t e = apart 2 0 (λ z. omega arith) t
same_line (Heading l) (Closing m) t e = apart 2 1 (λ z. omega arith) t
same_line (Heading l) (Heading m) t e = ap Heading (same_heading l m e)

told_is : (r : Result (Line × ℕ) ReadRefusal) (l : Line) (n : ℕ) → told r ≡ Ok ((tag l, values l), n) → r ≡ Ok (l, n)
told_is (Ok p) l n e =
    let pair : ◌≡◌ {A = Parsed} ((tag p.0, values p.0), p.1) ((tag l, values l), n) = cc in
    let line : p.0 ≡ l = same_line p.0 l (ap (λ q. q.0.0) pair) (ap (λ q. q.0.1) pair) in
    ap (λ q. Ok (q, p.1)) line ∙ ap (λ q. Ok (l, q)) (ap (λ q. q.1) pair)
told_is (Err x) l n e = let z : ◌≡◌ {A = ℕ} 0 1 = cc in absurd (let no : ⊥ = omega arith in no)

-- What is written reads as that line, whatever follows.
pub written_reads : (l : Line) → Fits l → ReadsAs (encode l) l (length (encode l))
written_reads l fit rest r e = told_is r l (length (encode l)) (e ∙ written_parses l rest fit)

-- what parses was written

of_sort_is : (t : ℕ) (r : Result (List ℕ × ℕ) ReadRefusal) (d : ℕ × List ℕ) (n : ℕ) → of_sort t r ≡ Ok (d, n) → (vs : List ℕ) × (r ≡ Ok (vs, n)) × (d ≡ (t, vs))
of_sort_is t (Ok p) d n e =
    let pair : ◌≡◌ {A = Parsed} ((t, p.0), p.1) (d, n) = cc in
    (p.0, ap (λ x. Ok (p.0, x)) (ap (λ q. q.1) pair), sym (ap (λ q. q.0) pair))
of_sort_is t (Err x) d n e = let z : ◌≡◌ {A = ℕ} 0 1 = cc in absurd (let no : ⊥ = omega arith in no)

-- the first n bytes are those of the sort and values d
record ParsedFront (bs : List ℕ) (d : ℕ × List ℕ) (n : ℕ) : Type 0 where
  within : n ≤ length bs
  front : take n bs ≡ encoded d.0 (widths_by d.0) d.1
  fit : Fit (widths_by d.0) d.1

parsed_front : (t m : ℕ) (bs : List ℕ) (d : ℕ × List ℕ) (n : ℕ) → Bytes bs → 2 ≤ length bs → map_of bs ≡ t * map_bits + m → parsed t m bs ≡ Ok (d, n) → ParsedFront bs d n
parsed_front t m bs d n u long map_is e =
    let ws : List ℕ = widths_by t in
    let some = not_refused _ _ _ _ e in
    let e1 = sym (cond-false _ _ _ some) ∙ e in
    let p = of_sort_is t (fields [] ws m 2 (drop 2 bs)) d n e1 in
    let q = fields_told [] ws m 2 (drop 2 bs) p.0 n (All-drop (λ b. b < 256) 2 bs u) (leb-false (2 ^ length ws) m some) p.1 in
    let vs : List ℕ = q.0 in
    let told = q.1 in
    let two : bytes_of 2 (map_of bs) ≡ take 2 bs = bytes_of_number 2 (take 2 bs) (length-take-le 2 bs long) (All-take (λ b. b < 256) 2 bs u) in
    let map-two : bytes_of 2 (t * map_bits + mask vs) ≡ take 2 bs = ap (λ x. bytes_of 2 (t * map_bits + x)) told.mask_is ∙ (ap (bytes_of 2) (sym map_is) ∙ two) in
    let is : d ≡ (t, vs) = p.2 ∙ ap (λ x. (t, x)) told.all_is in
    subst (λ x. ParsedFront bs x n) (sym is) (record {
      within = omega (arith, told.end_is, told.within, length-drop 2 bs);
      front = ap (λ x. take x bs) told.end_is ∙ (take-add 2 (length (written ws vs)) bs ∙ (ap (λ x. take 2 bs ++ x) told.front ∙ ap (λ x. x ++ written ws vs) (sym map-two)));
      fit = told.fit;
    })

pub read_written : (bs : List ℕ) (l : Line) (n : ℕ) → Bytes bs → decode bs ≡ Ok ((tag l, values l), n) → Front bs l n
read_written bs l n u e =
    let long : 2 ≤ length bs = ltb-false (length bs) 2 (not_refused _ _ _ _ e) in
    let e1 = sym (cond-false _ _ _ (le-ltb (length bs) 2 long)) ∙ e in
    let t : ℕ = map_of bs / map_bits in
    elim (cases_lt t 3) [
      | inl few ↦
          let e2 = sym (cond-true _ _ _ (lt-ltb t 3 few)) ∙ e1 in
          let f = parsed_front t (map_of bs % map_bits) bs (tag l, values l) n u long (omega arith) e2 in
          record { within = f.within; front = f.front; fits = f.fit }
      | inr many ↦ let e2 = sym (cond-false _ _ _ (le-ltb t 3 many)) ∙ e1 in let z : ◌≡◌ {A = ℕ} 0 1 = cc in absurd (let no : ⊥ = omega arith in no)
    ]
