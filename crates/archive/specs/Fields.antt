-- Numbers as bytes, and the fields of any sort of line: a list of widths and a list of values. Assumes nothing.
use Rattle.std.specs.Prelude.{◌≡◌, ℕ, zero, suc, ◌+◌, ◌*◌, ◌/◌, ◌%◌, ◌^◌, ◌<◌, Bool, cond, List, [], ◌∷◌, ◌++◌, length, take, drop, Ok, Err, Result, ◌==◌, nat_lt, slice_index}
use Rattle.std.specs.Int.Digits.{number_from_digits}
use Rattle.refusals.specs.declared.ReadRefusal.{ReadRefusal}
use Rattle.refusals.specs.declared.ReadRefusal.TheVariants.{Ended, Zero}

-- v as w bytes, high byte first
abbrev pub bytes_of : ℕ → ℕ → List ℕ
bytes_of zero v = []
bytes_of (suc w) v = bytes_of w (v / 256) ++ (v % 256 ∷ [])

-- bit i stands exactly when value i is not 0
abbrev pub mask : List ℕ → ℕ
mask [] = 0
mask (v ∷ vs) = cond (v == 0) 0 1 + 2 * mask vs

-- which is what the bits of that number say, one by one
abbrev pub BitsStand : List ℕ → Type 0
BitsStand vs = (i : ℕ) → i < length vs → mask vs / 2 ^ i % 2 ≡ cond (slice_index vs i == 0) 0 1

-- the fields that are not 0
abbrev pub written : List ℕ → List ℕ → List ℕ
written [] vs = []
written (w ∷ ws) [] = []
written (w ∷ ws) (v ∷ vs) = cond (v == 0) [] (bytes_of w v) ++ written ws vs

-- as many values as widths, each below its width
abbrev pub Fit : List ℕ → List ℕ → Type 0
Fit [] [] = Unit {0}
Fit [] (v ∷ vs) = ⊥
Fit (w ∷ ws) [] = ⊥
Fit (w ∷ ws) (v ∷ vs) = (v < 256 ^ w) × Fit ws vs

-- the place of the two bits that tell the sort
abbrev pub map_bits : ℕ
map_bits = 16384

-- the bytes of a line: its map, then the fields that are not 0
abbrev pub encoded : ℕ → List ℕ → List ℕ → List ℕ
encoded tag ws vs = bytes_of 2 (tag * map_bits + mask vs) ++ written ws vs

-- the field of width w that the bytes bs at offset at begin with, or 0 where it is absent
abbrev pub field : Bool → ℕ → ℕ → List ℕ → Result ℕ ReadRefusal
field present w at bs =
    cond present
    (cond (nat_lt (length bs) w) (Err (Ended at))
    (cond (number_from_digits 256 (take w bs) == 0) (Err (Zero at)) (Ok (number_from_digits 256 (take w bs)))))
    (Ok 0)

-- the fields of widths ws, of which m has the bits, from the bytes bs that stand at offset at; done holds the values so far
abbrev pub fields : List ℕ → List ℕ → ℕ → ℕ → List ℕ → Result (List ℕ × ℕ) ReadRefusal
fields done [] m at bs = Ok (done, at)
fields done (w ∷ ws) m at bs =
    cond (m % 2 == 0)
    (fields (done ++ (0 ∷ [])) ws (m / 2) at bs)
    (cond (nat_lt (length bs) w) (Err (Ended at))
    (cond (number_from_digits 256 (take w bs) == 0) (Err (Zero at))
    (fields (done ++ (number_from_digits 256 (take w bs) ∷ [])) ws (m / 2) (at + w) (drop w bs))))
