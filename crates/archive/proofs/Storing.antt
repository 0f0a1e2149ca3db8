-- What the loops of the writer step by, and what it leaves. Assumes nothing.
use Rattle.std.proofs.Common.{◌≡◌, ℕ, ◌+◌, ◌-◌, ◌*◌, ◌^◌, ◌<◌, ◌≤◌, List, [], ◌∷◌, ◌++◌, length, get_or, take, drop, IfOk, Result, sym, refl, ap, ◌∙◌, subst, ⊎_elim, append_assoc, pow-suc, add-one, arith, length-append}
use Rattle.std.proofs.lemmas.List.{drop_more, drop-drop, drop_all, take_all, take_at, take-append-drop, append-nil}
use Rattle.std.proofs.lemmas.Slice.{take-put_mid, drop-put_mid}
use borrow.Rule.Slice.PartMut.{put_mid}
use Rattle.std.proofs.lemmas.Bool.{cond-true, cond-false, le-ltb, lt-ltb, cases_lt}
use Rattle.refusals.specs.declared.WriteRefusal.{WriteRefusal}
use Rattle.archive.specs.Fields.{bytes_of, mask, written, encoded, map_bits}
use Rattle.archive.specs.Lines.{write_answer, write_bytes, encode, Fits, ReadsAs}
use Rattle.archive.specs.declared.line.Line.{Line}
use Rattle.archive.proofs.Codec.{written_reads}
use Rattle.archive.proofs.Numbers.{length_bytes_of, mask_with, mask_without, written_with, written_without}

-- the fields from the i-th on
module _ (ws vs : List ℕ) (i : ℕ) (h : i < length ws) (k : i < length vs) where
  opened : written (drop i ws) (drop i vs) ≡ written (get_or ws i 0 ∷ drop (i + 1) ws) (get_or vs i 0 ∷ drop (i + 1) vs)
  opened = ap (λ x. written x (drop i vs)) (drop_more ws i 0 h) ∙ ap (λ x. written (get_or ws i 0 ∷ drop (i + 1) ws) x) (drop_more vs i 0 k)

  pub tail_with : (get_or vs i 0 ≡ 0 → ⊥) → written (drop i ws) (drop i vs) ≡ bytes_of (get_or ws i 0) (get_or vs i 0) ++ written (drop (i + 1) ws) (drop (i + 1) vs)
  tail_with n = opened ∙ written_with (get_or ws i 0) (drop (i + 1) ws) (get_or vs i 0) (drop (i + 1) vs) n

  pub tail_without : get_or vs i 0 ≡ 0 → written (drop i ws) (drop i vs) ≡ written (drop (i + 1) ws) (drop (i + 1) vs)
  tail_without e = opened ∙ written_without (get_or ws i 0) (drop (i + 1) ws) (get_or vs i 0) (drop (i + 1) vs) e

  pub size_with : (get_or vs i 0 ≡ 0 → ⊥) → length (written (drop i ws) (drop i vs)) ≡ get_or ws i 0 + length (written (drop (i + 1) ws) (drop (i + 1) vs))
  size_with n = ap length (tail_with n) ∙ (length-append (bytes_of (get_or ws i 0) (get_or vs i 0)) (written (drop (i + 1) ws) (drop (i + 1) vs)) ∙ ap (λ x. x + length (written (drop (i + 1) ws) (drop (i + 1) vs))) (length_bytes_of (get_or ws i 0) (get_or vs i 0)))

  pub bits_with : (get_or vs i 0 ≡ 0 → ⊥) → mask (drop i vs) ≡ 1 + 2 * mask (drop (i + 1) vs)
  bits_with n = ap mask (drop_more vs i 0 k) ∙ mask_with (get_or vs i 0) (drop (i + 1) vs) n

  pub bits_without : get_or vs i 0 ≡ 0 → mask (drop i vs) ≡ 2 * mask (drop (i + 1) vs)
  bits_without e = ap mask (drop_more vs i 0 k) ∙ mask_without (get_or vs i 0) (drop (i + 1) vs) e

-- a bit that stands, and the bits above it
bit_above : (bit m : ℕ) → bit * (1 + 2 * m) ≡ bit + bit * 2 * m
bit_above bit m = omega arith

pub bit_next : (i j bit : ℕ) → j ≡ i + 1 → bit ≡ 2 ^ i → bit * 2 ≡ 2 ^ j
bit_next i j bit next is =
    let twice : 2 ^ i * 2 ≡ 2 ^ (i + 1) = rw (add-one, pow-suc) (omega arith) in
    ap (λ x. x * 2) is ∙ (twice ∙ ap (λ x. 2 ^ x) (sym next))

-- one more field is dealt with, the i-th, and j is the next
module _ (ws vs : List ℕ) (i j : ℕ) (next : j ≡ i + 1) (h : i < length ws) (k : i < length vs) where
  later : written (drop j ws) (drop j vs) ≡ written (drop (i + 1) ws) (drop (i + 1) vs)
  later = ap (λ x. written (drop x ws) (drop x vs)) next

  pub size_more : (size w : ℕ) → size + length (written (drop i ws) (drop i vs)) ≡ length (written ws vs) → (get_or vs i 0 ≡ 0 → ⊥) → w ≡ get_or ws i 0 → size + w + length (written (drop j ws) (drop j vs)) ≡ length (written ws vs)
  size_more size w s some wide = omega (arith, size_with ws vs i h k some, ap length later, s, wide)

  pub size_same : (size : ℕ) → size + length (written (drop i ws) (drop i vs)) ≡ length (written ws vs) → get_or vs i 0 ≡ 0 → size + length (written (drop j ws) (drop j vs)) ≡ length (written ws vs)
  size_same size s none = omega (arith, ap length (tail_without ws vs i h k none), ap length later, s)

  -- the bit of the field is worth bit
  module _ (bits bit : ℕ) (b : bits + bit * mask (drop i vs) ≡ mask vs) where
    same_mask : mask (drop j vs) ≡ mask (drop (i + 1) vs)
    same_mask = ap (λ x. mask (drop x vs)) next

    pub bits_more : (get_or vs i 0 ≡ 0 → ⊥) → bits + bit + bit * 2 * mask (drop j vs) ≡ mask vs
    bits_more some = ap (λ x. bits + bit + bit * 2 * x) same_mask ∙ omega (arith, bit_above bit (mask (drop (i + 1) vs)), ap (λ x. bit * x) (bits_with ws vs i h k some), b)

    pub bits_same : get_or vs i 0 ≡ 0 → bits + bit * 2 * mask (drop j vs) ≡ mask vs
    bits_same none = ap (λ x. bits + bit * 2 * x) same_mask ∙ omega (arith, ap (λ x. bit * x) (bits_without ws vs i h k none), b)

  -- the field is written from at on
  module _ (bs es piece : List ℕ) (at w : ℕ) (some : get_or vs i 0 ≡ 0 → ⊥) (wide : w ≡ get_or ws i 0) (is : piece ≡ bytes_of w (get_or vs i 0)) (room : at + w ≤ length bs) where
    abbrev now : List ℕ
    now = put_mid at (at + w - at) bs piece

    long : length piece ≡ w
    long = ap length is ∙ length_bytes_of w (get_or vs i 0)

    tail : piece ++ written (drop j ws) (drop j vs) ≡ written (drop i ws) (drop i vs)
    tail = ap (λ x. piece ++ x) later ∙ (ap (λ x. x ++ written (drop (i + 1) ws) (drop (i + 1) vs)) (is ∙ ap (λ x. bytes_of x (get_or vs i 0)) wide) ∙ sym (tail_with ws vs i h k some))

    pub front_more : take at bs ++ written (drop i ws) (drop i vs) ≡ written ws vs → take (at + w) now ++ written (drop j ws) (drop j vs) ≡ written ws vs
    front_more front =
        ap (λ x. x ++ written (drop j ws) (drop j vs)) (take-put_mid at (at + w - at) bs piece (at + w) (omega (arith, long)) (omega arith))
        ∙ (append_assoc (take at bs) piece (written (drop j ws) (drop j vs)) ∙ (ap (λ x. take at bs ++ x) tail ∙ front))

    pub back_more : drop at bs ≡ drop at es → drop (at + w) now ≡ drop (at + w) es
    back_more back =
        drop-put_mid at (at + w - at) bs piece (at + w) (omega arith) (omega arith) (omega (arith, long))
        ∙ (sym (drop-drop w at bs) ∙ (ap (drop w) back ∙ drop-drop w at es))

-- all fields stored
pub fields_stored : (bs es ws vs : List ℕ) (i at : ℕ) → length ws ≤ i → at + length (written (drop i ws) (drop i vs)) ≡ length (written ws vs) → take at bs ++ written (drop i ws) (drop i vs) ≡ written ws vs → drop at bs ≡ drop at es → bs ≡ written ws vs ++ drop (length (written ws vs)) es
fields_stored bs es ws vs i at all far front back =
    let none : written (drop i ws) (drop i vs) ≡ [] = ap (λ x. written x (drop i vs)) (drop_all i ws all) in
    let end : at ≡ length (written ws vs) = omega (arith, ap length none) in
    let f : take at bs ≡ written ws vs = sym (append-nil (take at bs)) ∙ (ap (λ x. take at bs ++ x) (sym none) ∙ front) in
    sym (take-append-drop at bs) ∙ (ap (λ x. x ++ drop at bs) f ∙ ap (λ x. written ws vs ++ x) (back ∙ ap (λ x. drop x es) end))

-- the map is stored, and the fields behind it
pub line_stored : (t : ℕ) (ws vs us es map behind : List ℕ) → length (encoded t ws vs) ≤ length es → us ≡ vs → map ≡ bytes_of 2 (t * map_bits + mask vs) → behind ≡ written ws us ++ drop (length (written ws us)) (take (length (map ++ drop 2 es) - 2) (drop 2 (map ++ drop 2 es))) → put_mid 2 (length (map ++ drop 2 es) - 2) (map ++ drop 2 es) behind ≡ write_bytes (encoded t ws vs) es
line_stored t ws vs us es map behind room same is e =
    let two : List ℕ = bytes_of 2 (t * map_bits + mask vs) in
    let text : List ℕ = written ws vs in
    let size : 2 + length text ≡ length (encoded t ws vs) = omega arith in
    let part : take (length (two ++ drop 2 es) - 2) (drop 2 es) ≡ drop 2 es = take_all _ (drop 2 es) (omega arith) in
    let none : drop (length (two ++ drop 2 es) - 2) (drop 2 es) ≡ [] = drop_all _ (drop 2 es) (omega arith) in
    let rest : drop (length text) (drop 2 es) ≡ drop (length (encoded t ws vs)) es = drop-drop (length text) 2 es ∙ ap (λ x. drop x es) size in
    let e1 : behind ≡ text ++ drop (length text) (take (length (map ++ drop 2 es) - 2) (drop 2 (map ++ drop 2 es))) = e ∙ ap (λ x. written ws x ++ drop (length (written ws x)) (take (length (map ++ drop 2 es) - 2) (drop 2 (map ++ drop 2 es)))) same in
    let e2 : behind ≡ text ++ drop (length text) (drop 2 es) = e1 ∙ ap (λ x. text ++ drop (length text) (take (length (x ++ drop 2 es) - 2) (drop 2 (x ++ drop 2 es)))) is ∙ ap (λ x. text ++ drop (length text) x) part in
    ap (λ x. put_mid 2 (length (x ++ drop 2 es) - 2) (x ++ drop 2 es) behind) is
    ∙ (ap (λ x. two ++ (behind ++ x)) none ∙ (ap (λ x. two ++ x) (append-nil behind ∙ (e2 ∙ ap (λ x. text ++ x) rest)) ∙ sym (cond-false _ _ _ (le-ltb (length es) (length (encoded t ws vs)) room))))

-- what the writer leaves, of the line m that it matched, reads as that line
pub leaves_readable : (l m : Line) (bs now : List ℕ) (r : Result ℕ WriteRefusal) → m ≡ l → Fits l → r ≡ write_answer (encode l) bs → now ≡ write_bytes (encode l) bs → IfOk r (λ n. ReadsAs (take n now) m n)
leaves_readable l m bs now r is fit e f =
    subst (λ x. IfOk r (λ n. ReadsAs (take n now) x n)) (sym is) (⊎_elim
    (λ short. rw (e ∙ cond-true _ _ _ (lt-ltb (length bs) (length (encode l)) short)) tt)
    (λ long.
    let whole : now ≡ encode l ++ drop (length (encode l)) bs = f ∙ cond-false _ _ _ (le-ltb (length bs) (length (encode l)) long) in
    let front : take (length (encode l)) now ≡ encode l = ap (take (length (encode l))) whole ∙ take_at (encode l) (drop (length (encode l)) bs) (length (encode l)) refl in
    rw (e ∙ cond-false _ _ _ (le-ltb (length bs) (length (encode l)) long))
    (subst (λ x. ReadsAs x l (length (encode l))) (sym front) (written_reads l fit)))
    (cases_lt (length bs) (length (encode l))))
