-- Theorems that no function's proof needs today, and that pages named or whose files they named. Each follows from what stands.
use Rattle.std.proofs.Common.{◌≡◌, ℕ, suc, ◌+◌, ◌-◌, ◌*◌, ◌/◌, ◌%◌, ◌^◌, ◌<◌, ◌≤◌, Bool, true, eqb, List, [], ◌∷◌, ◌++◌, map, length, get_or, take, drop, set, IfOk, Ok, Err, Result, sym, refl, ap, ◌∙◌, subst, append_assoc, pow-suc, add-one, arith, length-append, length-drop, pow_mono}
use native.Mathlib.Nat.{pow-le-pow_right}
use Rattle.std.specs.Prelude.{slice_index}
use Rattle.std.specs.List.{range_with_len}
use Rattle.std.specs.Int.Digits.{number_from_digits}
use Rattle.std.proofs.lemmas.Int.Digits.{number_more}
use Rattle.std.proofs.lemmas.List.{take-set, take-take, drop_more, drop-drop, drop_all, take_at, drop_at, length-take-le, take_more_set, get_or-drop}
use Rattle.std.proofs.lemmas.List.Elements.{All-drop}
use Rattle.std.proofs.lemmas.List.FromFn.{fill_by_all}
use Rattle.std.proofs.lemmas.Bool.Decides.{nat_tests}
use Rattle.std.proofs.lemmas.Grind.{common_steps}
use Rattle.refusals.specs.declared.WriteRefusal.{WriteRefusal}
use Rattle.refusals.specs.declared.ReadRefusal.{ReadRefusal}
use Rattle.refusals.specs.declared.ReadRefusal.TheVariants.{Ended, NoField, Zero}
use Rattle.archive.specs.Fields.{BitsStand, bytes_of, mask, written, encoded, map_bits, field, fields, Fit}
use Rattle.archive.specs.Lines.{tag, values, widths_by, write_answer, write_bytes, encode, Fits, ReadsAs, Parsed, of_sort, parsed, map_of, by_tag, decode}
use Rattle.archive.specs.declared.line.Line.{Line}
use Rattle.archive.proofs.Codec.{fit_length}
use Rattle.archive.proofs.Numbers.{mask_bit, mask_lt}
use Rattle.archive.proofs.Reading.{fields_told}
use Rattle.archive.proofs.Turns.{bytes_are}
use Rattle.archive.proofs.Storing.{tail_without, size_with, bits_with, bits_without}
use Rattle.archive.proofs.Storing.{leaves_readable as leaves}

-- one more byte of a number, from the low end: bytes from at + i on are written
module _ (bs es text : List ℕ) (at i j left : ℕ) (less : i ≡ suc j) (room : at + i ≤ length bs) where
  pub byte_front : take (at + i) bs ≡ take (at + i) es → take (at + j) (set bs (at + j) (left % 256)) ≡ take (at + j) es
  byte_front e = let t = take-take (at + j) (at + i) bs (omega arith) in let u = take-take (at + j) (at + i) es (omega arith) in let s = take-set bs (at + j) (left % 256) in cc

  pub byte_back : bytes_of i left ++ drop (at + i) bs ≡ text → bytes_of j (left / 256) ++ drop (at + j) (set bs (at + j) (left % 256)) ≡ text
  byte_back e = grind (arith, common_steps)

pub number_stored : (bs es text : List ℕ) (at i left : ℕ) → i ≡ 0 → take (at + i) bs ≡ take (at + i) es → bytes_of i left ++ drop (at + i) bs ≡ text → bs ≡ take at es ++ text
number_stored bs es text at i left done front back = grind (arith, common_steps)

pub bits_small : (vs : List ℕ) (i : ℕ) → length vs ≤ 14 → mask (drop i vs) < 16384
bits_small vs i few = omega (arith, mask_lt (drop i vs), pow_mono {i = length (drop i vs)} {j = 14} (omega (arith, length-drop i vs)))

-- one more field is stored
module _ (bs es piece more all : List ℕ) (at w : ℕ) (wide : length piece ≡ w) (room : at + w ≤ length bs) where
  pub field_front : take at bs ++ (piece ++ more) ≡ all → (now : List ℕ) → now ≡ take at bs ++ (piece ++ drop (at + w) bs) → take (at + w) now ++ more ≡ all
  field_front e now is =
      let size : length (take at bs ++ piece) ≡ at + w = omega (arith, length-append (take at bs) piece, length-take-le at bs (omega arith)) in
      let t : take (at + w) now ≡ take at bs ++ piece = ap (take (at + w)) (is ∙ sym (append_assoc (take at bs) piece (drop (at + w) bs))) ∙ take_at (take at bs ++ piece) (drop (at + w) bs) (at + w) size in
      ap (λ x. x ++ more) t ∙ (append_assoc (take at bs) piece more ∙ e)

  pub field_back : drop at bs ≡ drop at es → (now : List ℕ) → now ≡ take at bs ++ (piece ++ drop (at + w) bs) → drop (at + w) now ≡ drop (at + w) es
  field_back e now is =
      let size : length (take at bs ++ piece) ≡ at + w = omega (arith, length-append (take at bs) piece, length-take-le at bs (omega arith)) in
      let d : drop (at + w) now ≡ drop (at + w) bs = ap (drop (at + w)) (is ∙ sym (append_assoc (take at bs) piece (drop (at + w) bs))) ∙ drop_at (take at bs ++ piece) (drop (at + w) bs) (at + w) size in
      d ∙ (sym (drop-drop w at bs) ∙ (ap (drop w) e ∙ drop-drop w at es))

-- the writer's count of bits and bytes goes down from the last field, here from i to j
module _ (ws vs : List ℕ) (i j : ℕ) (less : j + 1 ≡ i) (h : j < length ws) (k : j < length vs) (bits size : ℕ) (b : bits ≡ mask (drop i vs)) (s : size ≡ length (written (drop i ws) (drop i vs))) where
  same_mask : mask (drop (j + 1) vs) ≡ mask (drop i vs)
  same_mask = rw less refl

  same_size : length (written (drop (j + 1) ws) (drop (j + 1) vs)) ≡ length (written (drop i ws) (drop i vs))
  same_size = rw less refl

  pub survey_with : (get_or vs j 0 ≡ 0 → ⊥) → (bits * 2 + 1 ≡ mask (drop j vs)) × (size + get_or ws j 0 ≡ length (written (drop j ws) (drop j vs)))
  survey_with n = (grind (arith, bits_with ws vs j h k n), grind (arith, size_with ws vs j h k n))

  pub survey_without : get_or vs j 0 ≡ 0 → (bits * 2 ≡ mask (drop j vs)) × (size ≡ length (written (drop j ws) (drop j vs)))
  survey_without e = (grind (arith, bits_without ws vs j h k e), grind (arith, tail_without ws vs j h k e))

pub none_left : (ws vs : List ℕ) (n : ℕ) → length ws ≡ n → length vs ≡ n → (0 ≡ mask (drop n vs)) × (0 ≡ length (written (drop n ws) (drop n vs)))
none_left ws vs n e f = (grind (arith, drop_all), grind (arith, drop_all))

-- all fields stored
pub fields_stored : (bs es ws vs : List ℕ) (n i at : ℕ) → length ws ≡ n → n ≤ i → at + length (written (drop i ws) (drop i vs)) ≡ 2 + length (written ws vs) → take at bs ++ written (drop i ws) (drop i vs) ≡ take 2 es ++ written ws vs → drop at bs ≡ drop at es → bs ≡ take 2 es ++ (written ws vs ++ drop (2 + length (written ws vs)) es)
fields_stored bs es ws vs n i at size done far front back = grind (arith, common_steps)

-- the map and the fields stored
pub line_stored : (t : ℕ) (ws vs es mid last : List ℕ) → length (encoded t ws vs) ≤ length es → mid ≡ take 0 es ++ (bytes_of 2 (t * map_bits + mask vs) ++ drop 2 es) → last ≡ take 2 mid ++ (written ws vs ++ drop (2 + length (written ws vs)) mid) → last ≡ write_bytes (encoded t ws vs) es
line_stored t ws vs es mid last room e f = grind (arith, nat_tests, common_steps)

pub answer_short : (e bs : List ℕ) (n : ℕ) → n ≡ length e → length bs < n → (Err (record { needed = n }) ≡ write_answer e bs) × (bs ≡ write_bytes e bs)
answer_short e bs n is short = (grind (arith, nat_tests), grind (arith, nat_tests))

pub answer_long : (e bs : List ℕ) (n : ℕ) → n ≡ length e → n ≤ length bs → Ok n ≡ write_answer e bs
answer_long e bs n is long = grind (arith, nat_tests)

-- what the writer leaves reads as that line
pub leaves_readable : (l : Line) (bs now : List ℕ) (r : Result ℕ WriteRefusal) → Fits l → r ≡ write_answer (encode l) bs → now ≡ write_bytes (encode l) bs → IfOk r (λ n. ReadsAs (take n now) l n)
leaves_readable l bs now r = leaves l l bs now r refl

-- all that the writer promises, of the line m that it matched
pub record Wrote (l : Line) (bs now : List ℕ) (r : Result ℕ WriteRefusal) : Type 0 where
  pub value : r ≡ write_answer (encode l) bs
  pub bytes : now ≡ write_bytes (encode l) bs
  pub bits : BitsStand (values l)
  pub reads : IfOk r (λ n. ReadsAs (take n now) l n)

pub wrote : (l m : Line) (vs bs now : List ℕ) (r : Result ℕ WriteRefusal) → l ≡ m → vs ≡ values m → Fits m → r ≡ write_answer (encoded (tag m) (widths_by (tag m)) vs) bs → now ≡ write_bytes (encoded (tag m) (widths_by (tag m)) vs) bs → Wrote l bs now r
wrote l m vs bs now r is all fit answer left =
    let value : r ≡ write_answer (encode m) bs = answer ∙ ap (λ x. write_answer (encoded (tag m) (widths_by (tag m)) x) bs) all in
    let bytes : now ≡ write_bytes (encode m) bs = left ∙ ap (λ x. write_bytes (encoded (tag m) (widths_by (tag m)) x) bs) all in
    subst (λ x. Wrote x bs now r) (sym is) (record { value = value; bytes = bytes; bits = mask_bit (values m); reads = leaves_readable m bs now r fit value bytes })

pub fit_more : (vs : List ℕ) (i n : ℕ) → get_or vs (i - 1) 0 < 2 ^ 64 → ((k : ℕ) → i ≤ k → k < n → get_or vs k 0 < 2 ^ 64) → (k : ℕ) → i - 1 ≤ k → k < n → get_or vs k 0 < 2 ^ 64
fit_more vs i n here above k low high = grind arith

-- one field, by what the map says of it
module _ (done : List ℕ) (w : ℕ) (ws : List ℕ) (m at : ℕ) (bs : List ℕ) where
  pub ended : (m % 2 ≡ 0 → ⊥) → length bs < w → fields done (w ∷ ws) m at bs ≡ Err (Ended at)
  ended n h = grind (arith, nat_tests)

  pub zeroed : (m % 2 ≡ 0 → ⊥) → w ≤ length bs → number_from_digits 256 (take w bs) ≡ 0 → fields done (w ∷ ws) m at bs ≡ Err (Zero at)
  zeroed n h e = grind (arith, nat_tests)

-- a list of a known length is its elements
pub spread : (vs : List ℕ) (n : ℕ) → length vs ≡ n → map (λ k. get_or vs k 0) (range_with_len 0 n) ≡ vs
spread vs n e = sym (fill_by_all (λ k. get_or vs k 0) vs n 0 e (λ k h. refl))

-- one more byte of a number
pub sum_below : (s i b : ℕ) → s < 256 ^ i → b < 256 → s * 256 + b < 256 ^ (i + 1)
sum_below s i b h k = rw (add-one, pow-suc) (omega arith)

pub sum_fits : (s i b : ℕ) → s < 256 ^ i → i < 8 → b < 256 → s * 256 + b < 2 ^ 64
sum_fits s i b h few k = omega (arith, sum_below s i b h k, pow-le-pow_right {n = 256} (omega arith) {i = i + 1} {j = 8} (omega arith))

pub sum_more : (bs : List ℕ) (at i s : ℕ) → at + i < length bs → s ≡ number_from_digits 256 (take i (drop at bs)) → s * 256 + get_or bs (at + i) 0 ≡ number_from_digits 256 (take (i + 1) (drop at bs))
sum_more bs at i s h e = omega (arith, number_more 256 (drop at bs) i (omega (arith, length-drop at bs)), get_or-drop at bs i 0, e)

-- what a field is, by its cases
module _ (w at : ℕ) (bs : List ℕ) where
  pub field_ended : length bs < w → Err (Ended at) ≡ field true w at bs
  field_ended h = grind (arith, nat_tests)

  pub field_zeroed : w ≤ length bs → number_from_digits 256 (take w bs) ≡ 0 → Err (Zero at) ≡ field true w at bs
  field_zeroed h z = grind (arith, nat_tests)

  pub field_stands : w ≤ length bs → (number_from_digits 256 (take w bs) ≡ 0 → ⊥) → Ok (number_from_digits 256 (take w bs)) ≡ field true w at bs
  field_stands h z = grind (arith, nat_tests)

-- a field among the fields
module _ (done : List ℕ) (w : ℕ) (ws : List ℕ) (m at : ℕ) (bs : List ℕ) where
  abbrev here : Bool → Result ℕ ReadRefusal
  here b = field b w at bs

  pub stopped : (e : ReadRefusal) → here (eqb (m % 2) 1) ≡ Err e → fields done (w ∷ ws) m at bs ≡ Err e
  stopped e h = grind (arith, nat_tests)

  pub stepped_absent : (v : ℕ) → m % 2 ≡ 0 → here (eqb (m % 2) 1) ≡ Ok v → fields done (w ∷ ws) m at bs ≡ fields (done ++ (v ∷ [])) ws (m / 2) at bs
  stepped_absent v even h = grind (arith, nat_tests)

  pub stepped : (v : ℕ) → m % 2 ≡ 1 → here (eqb (m % 2) 1) ≡ Ok v → fields done (w ∷ ws) m at bs ≡ fields (done ++ (v ∷ [])) ws (m / 2) (at + w) (drop w bs)
  stepped v odd h = grind (arith, nat_tests)

  -- a field that stands lies inside the bytes
  pub room : (v : ℕ) → m % 2 ≡ 1 → here (eqb (m % 2) 1) ≡ Ok v → w ≤ length bs
  room v odd h = grind (arith, nat_tests)

-- one turn of the loop over the fields
module _ (values widths bs : List ℕ) (i m at v : ℕ) (h : i < length widths) (k : i < length values) (ok : field (eqb (m % 2) 1) (get_or widths i 0) at (drop at bs) ≡ Ok v) where
  abbrev w : ℕ
  w = get_or widths i 0

  pub turn_stands : m % 2 ≡ 1 → at ≤ length bs → fields (take (i + 1) (set values i v)) (drop (i + 1) widths) (m / 2) (at + w) (drop (at + w) bs) ≡ fields (take i values) (drop i widths) m at (drop at bs)
  turn_stands odd in_bytes = grind (arith, drop_more, drop-drop, take_more_set, stepped (take i values) w (drop (i + 1) widths) m at (drop at bs) v odd ok)

  pub turn_absent : m % 2 ≡ 0 → fields (take (i + 1) (set values i v)) (drop (i + 1) widths) (m / 2) at (drop at bs) ≡ fields (take i values) (drop i widths) m at (drop at bs)
  turn_absent even = grind (arith, drop_more, take_more_set, stepped_absent (take i values) w (drop (i + 1) widths) m at (drop at bs) v even ok)

  pub turn_room : m % 2 ≡ 1 → at ≤ length bs → at + w ≤ length bs
  turn_room odd in_bytes = omega (arith, room (take i values) w (drop (i + 1) widths) m at (drop at bs) v odd ok, length-drop at bs)

pub turn_stopped : (values widths bs : List ℕ) (i m at : ℕ) (e : ReadRefusal) → i < length widths → field (eqb (m % 2) 1) (get_or widths i 0) at (drop at bs) ≡ Err e → fields (take i values) (drop i widths) m at (drop at bs) ≡ Err e
turn_stopped values widths bs i m at e h stop = grind (arith, drop_more, stopped (take i values) (get_or widths i 0) (drop (i + 1) widths) m at (drop at bs) e stop)

-- as many values as widths, each below its width, at the places from k on, of which there may be more
abbrev pub Within : List ℕ → ℕ → List ℕ → Type 0
Within [] k vs = Unit {0}
Within (w ∷ ws) k vs = (slice_index vs k < 256 ^ w) × Within ws (k + 1) vs

-- values below their widths, by place
pub within_from : (ws front vs all : List ℕ) (k : ℕ) → length front ≡ k → all ≡ front ++ vs → Fit ws vs → Within ws k all
within_from [] front vs all k size is fit = tt
within_from (w ∷ ws) front [] all k size is fit = absurd fit
within_from (w ∷ ws) front (v ∷ vs) all k size is fit = (grind (arith, common_steps), within_from ws (front ++ (v ∷ [])) vs all (k + 1) (grind (arith, common_steps)) (grind (arith, common_steps)) fit.1)

pub fields_within : (ws : List ℕ) (m : ℕ) (bs all : List ℕ) (n : ℕ) → ((i : ℕ) → get_or bs i 0 < 256) → m < 2 ^ length ws → fields [] ws m 2 (drop 2 bs) ≡ Ok (all, n) → Within ws 0 all
fields_within ws m bs all n u small e =
    let p = fields_told [] ws m 2 (drop 2 bs) all n (All-drop (λ b. b < 256) 2 bs (bytes_are bs u)) small e in
    within_from ws [] p.0 all 0 refl p.1.all_is p.1.fit

pub fields_many : (ws : List ℕ) (m : ℕ) (bs all : List ℕ) (n : ℕ) → ((i : ℕ) → get_or bs i 0 < 256) → m < 2 ^ length ws → fields [] ws m 2 (drop 2 bs) ≡ Ok (all, n) → length all ≡ length ws
fields_many ws m bs all n u small e = grind (arith, fit_length, fields_told [] ws m 2 (drop 2 bs) all n (All-drop (λ b. b < 256) 2 bs (bytes_are bs u)) small e)

-- one sort of line
module _ (t m : ℕ) (bs : List ℕ) where
  pub parsed_over : 2 ^ length (widths_by t) ≤ m → Err (NoField 0) ≡ parsed t m bs
  parsed_over h = grind (arith, nat_tests)

  pub parsed_fields : m < 2 ^ length (widths_by t) → (r : Result (List ℕ × ℕ) ReadRefusal) → r ≡ fields [] (widths_by t) m 2 (drop 2 bs) → of_sort t r ≡ parsed t m bs
  parsed_fields h r e = grind (arith, nat_tests)

  -- the fields of a line, one by one
  pub parsed_all : ((i : ℕ) → get_or bs i 0 < 256) → m < 2 ^ length (widths_by t) → (n : ℕ) (vs : List ℕ) (k : ℕ) → length (widths_by t) ≡ k → Ok (vs, n) ≡ fields [] (widths_by t) m 2 (drop 2 bs) → Ok ((t, map (λ i. get_or vs i 0) (range_with_len 0 k)), n) ≡ parsed t m bs
  parsed_all u h n vs k size e =
      ap (λ x. Ok ((t, x), n)) (spread vs k (fields_many (widths_by t) m bs vs n u h (sym e) ∙ size))
      ∙ parsed_fields h (Ok (vs, n)) e

pub decoded : (bs : List ℕ) (map t m : ℕ) (r : Result Parsed ReadRefusal) → 2 ≤ length bs → map ≡ map_of bs → map / map_bits ≡ t → map % map_bits ≡ m → r ≡ by_tag t m bs → r ≡ decode bs
decoded bs map t m r long two q w e = grind (arith, nat_tests)

pub ended_map : (bs : List ℕ) → length bs < 2 → Err (Ended 0) ≡ decode bs
ended_map bs short = grind (arith, nat_tests)

pub no_sort : (bs : List ℕ) (map t : ℕ) → 2 ≤ length bs → map ≡ map_of bs → map / map_bits ≡ t → 3 ≤ t → Err (NoField 0) ≡ decode bs
no_sort bs map t long two q many = grind (arith, nat_tests)

-- a value of eight bytes, read off a list that is equal to another
pub at : (vs us : List ℕ) (n k : ℕ) → vs ≡ us → ((k : ℕ) → k < n → get_or vs k 0 < 2 ^ 64) → k < n → get_or us k 0 < 2 ^ 64
at vs us n k e fit h = subst (λ x. get_or x k 0 < 2 ^ 64) e (fit k h)
