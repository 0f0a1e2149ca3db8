-- The three sorts of archive line: what the writer writes and what the reader reads. Assumes nothing.
use Rattle.std.specs.Prelude.{◌≡◌, ℕ, ◌/◌, ◌%◌, ◌^◌, ◌<◌, ◌≤◌, cond, All, List, [], ◌∷◌, ◌++◌, length, take, drop, Ok, Err, Result, ◌==◌, nat_le, nat_lt}
use Rattle.std.specs.Int.Digits.{number_from_digits}
use Rattle.refusals.specs.declared.WriteRefusal.{WriteRefusal}
use Rattle.refusals.specs.declared.ReadRefusal.{ReadRefusal}
use Rattle.refusals.specs.declared.ReadRefusal.TheVariants.{Ended, NoField}
use Rattle.archive.specs.declared.line.PlaceLine.{PlaceLine}
use Rattle.archive.specs.declared.line.ClosingLine.{ClosingLine}
use Rattle.archive.specs.declared.line.HeadingLine.{HeadingLine}
use Rattle.archive.specs.declared.line.Line.{Line}
use Rattle.archive.specs.declared.line.Line.TheVariants.{Place, Closing, Heading}
use Rattle.archive.specs.Fields.{map_bits, Fit, encoded, fields}

-- A field of a line: its width in bytes, and which number of the line it is.
pub record Field (L : Type 0) : Type 0 where
  pub width : ℕ
  pub value : L → ℕ

-- a field of this width and this value
abbrev pub field_of : {L : Type 0} → ℕ → (L → ℕ) → Field L
field_of w v = record { width = w; value = v }

-- the fields of each sort, from bit 0 up

abbrev pub place_fields : List (Field PlaceLine)
place_fields =
    field_of 4 (λ l. l.number)
    ∷ field_of 4 (λ l. l.first)
    ∷ field_of 4 (λ l. l.second)
    ∷ field_of 1 (λ l. l.finish)
    ∷ field_of 4 (λ l. l.container)
    ∷ field_of 1 (λ l. l.class)
    ∷ []

abbrev pub closing_fields : List (Field ClosingLine)
closing_fields =
    field_of 4 (λ l. l.container)
    ∷ field_of 1 (λ l. l.class)
    ∷ field_of 4 (λ l. l.pieces)
    ∷ field_of 4 (λ l. l.level)
    ∷ field_of 8 (λ l. l.weight)
    ∷ field_of 8 (λ l. l.used)
    ∷ field_of 8 (λ l. l.floor)
    ∷ []

abbrev pub heading_fields : List (Field HeadingLine)
heading_fields =
    field_of 1 (λ l. l.code)
    ∷ field_of 4 (λ l. l.capacity)
    ∷ field_of 1 (λ l. l.k)
    ∷ field_of 1 (λ l. l.limit)
    ∷ field_of 2 (λ l. l.allowance)
    ∷ field_of 1 (λ l. l.finishes)
    ∷ field_of 8 (λ l. l.unit)
    ∷ field_of 8 (λ l. l.ceiling)
    ∷ field_of 4 (λ l. l.standing)
    ∷ []

-- the widths of some fields
abbrev pub widths_of : {L : Type 0} → List (Field L) → List ℕ
widths_of [] = []
widths_of (f ∷ fs) = f.width ∷ widths_of fs

-- the values of some fields, of a line
abbrev pub values_of : {L : Type 0} → List (Field L) → L → List ℕ
values_of [] l = []
values_of (f ∷ fs) l = f.value l ∷ values_of fs l

-- the sort of a line, as the top two bits of its map have it, and the values of its fields
abbrev pub tag : Line → ℕ
tag (Place l) = 0
tag (Closing l) = 1
tag (Heading l) = 2

-- the values of a line, from bit 0 up
abbrev pub values : Line → List ℕ
values (Place l) = values_of place_fields l
values (Closing l) = values_of closing_fields l
values (Heading l) = values_of heading_fields l

-- the widths of the fields of a sort; there is no fourth sort
abbrev pub widths_by : ℕ → List ℕ
widths_by t = cond (t == 0) (widths_of place_fields) (cond (t == 1) (widths_of closing_fields) (widths_of heading_fields))

-- every field has a value of its width
abbrev pub Fits : Line → Type 0
Fits l = Fit (widths_by (tag l)) (values l)

-- Writing

-- the bytes of a line
abbrev pub encode : Line → List ℕ
encode l = encoded (tag l) (widths_by (tag l)) (values l)

-- what the writer answers and leaves where the line is the bytes e, and bs is the memory
abbrev pub write_answer : List ℕ → List ℕ → Result ℕ WriteRefusal
write_answer e bs = cond (nat_lt (length bs) (length e)) (Err (record { needed = length e })) (Ok (length e))

-- and what it leaves in memory
abbrev pub write_bytes : List ℕ → List ℕ → List ℕ
write_bytes e bs = cond (nat_lt (length bs) (length e)) bs (e ++ drop (length e) bs)

-- Reading

-- the map that the bytes begin with
abbrev pub map_of : List ℕ → ℕ
map_of bs = number_from_digits 256 (take 2 bs)

-- sort and values of a line, and its length
abbrev pub Parsed : Type 0
Parsed = (ℕ × List ℕ) × ℕ

-- a line of the sort t from the values of its fields, or the refusal
abbrev pub of_sort : ℕ → Result (List ℕ × ℕ) ReadRefusal → Result Parsed ReadRefusal
of_sort t (Ok p) = Ok ((t, p.0), p.1)
of_sort t (Err e) = Err e

-- a line of the sort t, of which m is the map without its top two bits
abbrev pub parsed : ℕ → ℕ → List ℕ → Result Parsed ReadRefusal
parsed t m bs = cond (nat_le (2 ^ length (widths_by t)) m) (Err (NoField 0)) (of_sort t (fields [] (widths_by t) m 2 (drop 2 bs)))

-- the same by what the top two bits say; there is no fourth sort
abbrev pub by_tag : ℕ → ℕ → List ℕ → Result Parsed ReadRefusal
by_tag t m bs = cond (nat_lt t 3) (parsed t m bs) (Err (NoField 0))

-- what any bytes parse to
abbrev pub decode : List ℕ → Result Parsed ReadRefusal
decode bs = cond (nat_lt (length bs) 2) (Err (Ended 0)) (by_tag (map_of bs / map_bits) (map_of bs % map_bits) bs)

-- what an answer of the reader says
abbrev pub told : Result (Line × ℕ) ReadRefusal → Result Parsed ReadRefusal
told (Ok p) = Ok ((tag p.0, values p.0), p.1)
told (Err e) = Err e

-- The reader's answer to the bytes bs is r.
abbrev pub Reads : List ℕ → Result (Line × ℕ) ReadRefusal → Type 0
Reads bs r = told r ≡ decode bs

-- numbers that are bytes
abbrev pub Bytes : List ℕ → Type 0
Bytes bs = All (λ b. b < 256) bs

-- The law that binds both

-- The bytes bs read as the line l of n bytes, whatever follows them.
abbrev pub ReadsAs : List ℕ → Line → ℕ → Type 0
ReadsAs bs l n = (rest : List ℕ) (r : Result (Line × ℕ) ReadRefusal) → Reads (bs ++ rest) r → r ≡ Ok (l, n)

-- The first n bytes of bs are those of the line l, and all its fields have their widths.
pub record Front (bs : List ℕ) (l : Line) (n : ℕ) : Type 0 where
  pub within : n ≤ length bs
  pub front : take n bs ≡ encode l
  pub fits : Fits l
