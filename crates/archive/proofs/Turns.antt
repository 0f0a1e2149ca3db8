-- What the loops of the reader step by, and how its answers come about. Assumes nothing.
use Rattle.std.proofs.Common.{◌≡◌, ℕ, ◌+◌, ◌*◌, ◌/◌, ◌%◌, ◌^◌, ◌<◌, ◌≤◌, Bool, true, false, cond, eqb, leb, ltb, List, [], ◌∷◌, ◌++◌, length, get_or, take, drop, set, IfOk, Ok, Err, Result, sym, refl, ap, ◌∙◌, ⊎_elim, subst, arith, length-drop}
use native.Mathlib.Nat.{div-eq_of_lt, mod-lt, div-add-mod'}
use Rattle.std.proofs.lemmas.Nat.{pow_pos}
use Rattle.std.specs.Int.Digits.{number_from_digits}
use Rattle.std.proofs.lemmas.List.{take_more, take_more_set, take_all, drop_more, drop-drop, drop_all}
use Rattle.std.proofs.lemmas.List.Elements.{All-from_get_or, All-drop}
use Rattle.std.proofs.lemmas.Bool.{le-leb, lt-leb, cond-true, cond-false, le-ltb, lt-ltb, ltb-false, cases_eq, cases_lt}
use Rattle.refusals.specs.declared.ReadRefusal.{ReadRefusal}
use Rattle.refusals.specs.declared.ReadRefusal.TheVariants.{Ended, NoField, Zero}
use Rattle.archive.specs.Fields.{field, fields, Fit, map_bits}
use Rattle.archive.specs.Lines.{Bytes, widths_by, Parsed, of_sort, parsed, map_of, by_tag, decode, told, Front}
use Rattle.archive.proofs.Codec.{read_written}
use Rattle.archive.specs.declared.line.Line.{Line}
use Rattle.archive.proofs.Reading.{absent, present, not_refused, fields_told}

-- two tests that refuse, before one answer and before another
refused_same : {X Y E : Type 0} (a b : Bool) (x y : E) (v : X) (r : Result Y E) (e : E) → cond a (Err x) (cond b (Err y) (Ok v)) ≡ Err e → cond a (Err x) (cond b (Err y) r) ≡ Err e
refused_same true b x y v r e h = let i : x ≡ e = cc in ap Err i
refused_same false true x y v r e h = let i : y ≡ e = cc in ap Err i
refused_same false false x y v r e h = let z : ◌≡◌ {A = ℕ} 0 1 = cc in absurd (let no : ⊥ = omega arith in no)

passed_same : {X Y E : Type 0} (a b : Bool) (x y : E) (v u : X) (r : Result Y E) → cond a (Err x) (cond b (Err y) (Ok v)) ≡ Ok u → (cond a (Err x) (cond b (Err y) r) ≡ r) × (v ≡ u)
passed_same true b x y v u r h = let z : ◌≡◌ {A = ℕ} 0 1 = cc in absurd (let no : ⊥ = omega arith in no)
passed_same false true x y v u r h = let z : ◌≡◌ {A = ℕ} 0 1 = cc in absurd (let no : ⊥ = omega arith in no)
passed_same false false x y v u r h = (refl, cc)

-- a field that stands, among the fields
module _ (done : List ℕ) (w : ℕ) (ws : List ℕ) (m at : ℕ) (bs : List ℕ) (odd : m % 2 ≡ 1) where
  abbrev value : ℕ
  value = number_from_digits 256 (take w bs)

  abbrev after : ℕ → Result (List ℕ × ℕ) ReadRefusal
  after x = fields (done ++ (x ∷ [])) ws (m / 2) (at + w) (drop w bs)

  pub stopped : (e : ReadRefusal) → field true w at bs ≡ Err e → fields done (w ∷ ws) m at bs ≡ Err e
  stopped e h = present done w ws m at bs (λ z. omega arith) ∙ refused_same (ltb (length bs) w) (eqb value 0) (Ended at) (Zero at) value (after value) e h

  pub stepped : (v : ℕ) → field true w at bs ≡ Ok v → fields done (w ∷ ws) m at bs ≡ after v
  stepped v h =
      let p = passed_same (ltb (length bs) w) (eqb value 0) (Ended at) (Zero at) value v (after value) h in
      present done w ws m at bs (λ z. omega arith) ∙ (p.0 ∙ ap after p.1)

-- a field that stands lies inside the bytes
pub room : (w at : ℕ) (bs : List ℕ) (v : ℕ) → at ≤ length bs → field true w at (drop at bs) ≡ Ok v → at + w ≤ length bs
room w at bs v inside h = omega (arith, ltb-false (length (drop at bs)) w (not_refused _ _ _ _ h), length-drop at bs)

-- one turn of the loop over the fields
module _ (values widths bs : List ℕ) (i m at : ℕ) (h : i < length widths) where
  abbrev w : ℕ
  w = get_or widths i 0

  pub turn_stopped : (e : ReadRefusal) → m % 2 ≡ 1 → field true w at (drop at bs) ≡ Err e → fields (take i values) (drop i widths) m at (drop at bs) ≡ Err e
  turn_stopped e odd stop = ap (λ x. fields (take i values) x m at (drop at bs)) (drop_more widths i 0 h) ∙ stopped (take i values) w (drop (i + 1) widths) m at (drop at bs) odd e stop

  pub turn_stands : (v : ℕ) → i < length values → m % 2 ≡ 1 → field true w at (drop at bs) ≡ Ok v → fields (take (i + 1) (set values i v)) (drop (i + 1) widths) (m / 2) (at + w) (drop (at + w) bs) ≡ fields (take i values) (drop i widths) m at (drop at bs)
  turn_stands v k odd ok =
      let s = stepped (take i values) w (drop (i + 1) widths) m at (drop at bs) odd v ok in
      sym (ap (λ x. fields (take i values) x m at (drop at bs)) (drop_more widths i 0 h) ∙ (s ∙ (ap (λ x. fields (take i values ++ (v ∷ [])) (drop (i + 1) widths) (m / 2) (at + w) x) (drop-drop w at bs) ∙ ap (λ x. fields x (drop (i + 1) widths) (m / 2) (at + w) (drop (at + w) bs)) (sym (take_more_set values i v k)))))

  pub turn_absent : i < length values → get_or values i 0 ≡ 0 → m % 2 ≡ 0 → fields (take (i + 1) values) (drop (i + 1) widths) (m / 2) at (drop at bs) ≡ fields (take i values) (drop i widths) m at (drop at bs)
  turn_absent k none even =
      let s = absent (take i values) w (drop (i + 1) widths) m at (drop at bs) even in
      let more : take (i + 1) values ≡ take i values ++ (0 ∷ []) = take_more values i 0 k ∙ ap (λ x. take i values ++ (x ∷ [])) none in
      ap (λ x. fields x (drop (i + 1) widths) (m / 2) at (drop at bs)) more ∙ sym (ap (λ x. fields (take i values) x m at (drop at bs)) (drop_more widths i 0 h) ∙ s)

-- all fields are read
pub turns_end : (values widths bs : List ℕ) (i m at : ℕ) (r : Result (List ℕ × ℕ) ReadRefusal) → length widths ≤ i → length values ≤ i → fields (take i values) (drop i widths) m at bs ≡ r → Ok (values, at) ≡ r
turns_end values widths bs i m at r all whole e = rw (take_all i values whole, drop_all i widths all) at e

pub bytes_are : (bs : List ℕ) → ((i : ℕ) → get_or bs i 0 < 256) → Bytes bs
bytes_are bs h = All-from_get_or (λ b. b < 256) bs 0 (λ i k. h i)

pub fields_fit : (ws : List ℕ) (m : ℕ) (bs all : List ℕ) (n : ℕ) → ((i : ℕ) → get_or bs i 0 < 256) → m < 2 ^ length ws → Ok (all, n) ≡ fields [] ws m 2 (drop 2 bs) → Fit ws all
fields_fit ws m bs all n u small e =
    let p = fields_told [] ws m 2 (drop 2 bs) all n (All-drop (λ b. b < 256) 2 bs (bytes_are bs u)) small (sym e) in
    subst (Fit ws) (sym p.1.all_is) p.1.fit

pub even_from : (m : ℕ) → (m % 2 ≡ 1 → ⊥) → m % 2 ≡ 0
even_from m n = ⊎_elim (λ e. e) (λ o. absurd (n (omega arith))) (cases_eq (m % 2) 0)

-- a map with a bit that stands for no field, and one with none
pub over_from : (m k : ℕ) → (m / 2 ^ k ≡ 0 → ⊥) → 2 ^ k ≤ m
over_from m k some = ⊎_elim (λ below. absurd (some (div-eq_of_lt below))) (λ le. le) (cases_lt m (2 ^ k))

pub below_from : (m k : ℕ) → m / 2 ^ k ≡ 0 → m < 2 ^ k
below_from m k e =
    let none : m / 2 ^ k * 2 ^ k ≡ 0 = ap (λ x. x * 2 ^ k) e ∙ omega arith in
    omega (arith, none, mod-lt m (pow_pos k), div-add-mod' m (2 ^ k))

-- one sort of line, whose widths are ws
module _ (t m : ℕ) (bs ws : List ℕ) (is : widths_by t ≡ ws) where
  abbrev by_widths : List ℕ → Result Parsed ReadRefusal
  by_widths x = cond (leb (2 ^ length x) m) (Err (NoField 0)) (of_sort t (fields [] x m 2 (drop 2 bs)))

  pub parsed_over : 2 ^ length ws ≤ m → Err (NoField 0) ≡ parsed t m bs
  parsed_over h = sym (ap by_widths is ∙ cond-true _ _ _ (le-leb (2 ^ length ws) m h))

  pub parsed_fields : m < 2 ^ length ws → (r : Result (List ℕ × ℕ) ReadRefusal) → r ≡ fields [] ws m 2 (drop 2 bs) → of_sort t r ≡ parsed t m bs
  parsed_fields h r e = ap (of_sort t) e ∙ sym (ap by_widths is ∙ cond-false _ _ _ (lt-leb (2 ^ length ws) m h))

pub front_read : (bs : List ℕ) (r : Result (Line × ℕ) ReadRefusal) → ((i : ℕ) → get_or bs i 0 < 256) → told r ≡ decode bs → IfOk r (λ p. Front bs p.0 p.1)
front_read bs (Ok p) u e = read_written bs p.0 p.1 (bytes_are bs u) (sym e)
front_read bs (Err x) u e = tt

-- all that the reader promises, of what it parsed as the sort t
pub answered : (bs : List ℕ) (map t : ℕ) (r : Result (Line × ℕ) ReadRefusal) → ((i : ℕ) → get_or bs i 0 < 256) → 2 ≤ length bs → map ≡ map_of bs → map / map_bits ≡ t → t < 3 → told r ≡ parsed t (map % map_bits) bs → (told r ≡ decode bs) × IfOk r (λ p. Front bs p.0 p.1)
answered bs map t r u long two is known e =
    let sorted : told r ≡ by_tag t (map % map_bits) bs = e ∙ sym (cond-true _ _ _ (lt-ltb t 3 known)) in
    let value : told r ≡ decode bs = sorted ∙ (ap (λ x. by_tag x (map % map_bits) bs) (sym is) ∙ (ap (λ x. by_tag (x / map_bits) (x % map_bits) bs) two ∙ sym (cond-false _ _ _ (le-ltb (length bs) 2 long)))) in
    (value, front_read bs r u value)
