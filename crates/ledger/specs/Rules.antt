-- The packer's rules: what a put answers and leaves, what a report tells, and which calls led to a ledger. Assumes nothing.
use Rattle.std.specs.Prelude.{ℕ, zero, suc, ◌+◌, ◌-◌, ◌/◌, Bool, cond, not, ◌&&◌, ◌||◌, List, [], ◌∷◌, ◌++◌, length, replicate, Some, None, Ok, Err, sum_by, Option, Result, ◌==◌, nat_le, nat_lt, slice_index_or, slice_set}
use Rattle.kinds.specs.declared.piece.Piece.{Piece}
use Rattle.refusals.specs.declared.PieceRefusal.{PieceRefusal}
use Rattle.refusals.specs.declared.PutRefusal.{PutRefusal}
use Rattle.refusals.specs.declared.PutRefusal.TheVariants.{NoNumber, NotAdmitted, SeasonFull, ListFull}
use Rattle.ledger.specs.declared.Slot.{Slot}
use Rattle.ledger.specs.declared.Bank.{Bank}
use Rattle.archive.specs.declared.line.ClosingLine.{ClosingLine}
use Rattle.archive.specs.declared.line.PlaceLine.{PlaceLine}
use Rattle.ledger.specs.declared.Placing.{Placing}
use Rattle.ledger.specs.declared.Report.{Report}
use Rattle.ledger.specs.declared.Ledger.{Ledger}
use Rattle.kinds.specs.Kind.{Meaning}

-- 1, 2, .. n
abbrev pub upto : ℕ → List ℕ
upto zero = []
upto (suc n) = upto n ++ (suc n ∷ [])

-- the least number whose product with the ceiling is at least the weight
abbrev pub floor_of : ℕ → ℕ → ℕ
floor_of ceiling weight = (weight + (ceiling - 1)) / ceiling

-- a slot in which nothing stands open
abbrev pub nothing : Slot
nothing = record { container = 0; count = 0; level = 0; weight = 0 }

-- a container stands open in the slot
abbrev pub stands : Slot → Bool
stands t = not (t.count == 0)

-- what stands open in a class
abbrev pub open_in : Ledger → ℕ → Slot
open_in s c = slice_index_or s.bank.slots (c - 1) nothing

-- a bank in which nothing stands open
abbrev pub new_bank : Bank
new_bank = record { slots = replicate 104 nothing }

-- the ledger of a new packer
abbrev pub new_ledger : Ledger
new_ledger = record { bank = new_bank; accepted = 0; opened = 0; used = 0; weight = 0 }

-- the place line of an accepted put
abbrev pub place_line : Piece → Placing → PlaceLine
place_line p a = record { number = p.number; first = p.first; second = p.second; finish = p.finish; container = a.container; class = a.class }

-- what is there, as a list of one or none
abbrev pub maybe : {T : Type 0} → Option T → List T
maybe (Some x) = x ∷ []
maybe None = []

-- the closing before, then the closing after
abbrev pub closing_lines : Placing → List ClosingLine
closing_lines a = maybe a.before ++ maybe a.after

-- the lines that a put adds to the place list, by its answer
abbrev pub places_by : Piece → Result Placing PutRefusal → List PlaceLine
places_by p (Ok a) = place_line p a ∷ []
places_by p (Err r) = []

-- and to the closing list
abbrev pub closings_by : Result Placing PutRefusal → List ClosingLine
closings_by (Ok a) = closing_lines a
closings_by (Err r) = []

-- what a put of the piece p does, step by step
module _ (m : Meaning) (s : Ledger) (p : Piece) where
  -- what stands open in the class of the piece
  abbrev pub found : Slot
  found = open_in s (m.class p)

  -- The kind's word, and a level of at most 1,000,000: `CapIdle` says that on a reached ledger the first has it all.
  abbrev pub fits_found : Bool
  fits_found = nat_le (found.level + m.load p) 1000000 && m.fits (m.class p) found.count found.level p

  -- it closes, since the piece does not fit it
  abbrev pub closes_before : Bool
  closes_before = stands found && not fits_found

  -- it takes the piece
  abbrev pub goes_on : Bool
  goes_on = stands found && fits_found

  -- the container that takes the piece, before it does
  abbrev pub taking : Slot
  taking = cond goes_on found (record { container = s.opened + 1; count = 0; level = 0; weight = 0 })

  -- the same container with the piece in it
  abbrev pub taken : Slot
  taken = record {
    container = taking.container;
    count = taking.count + 1;
    level = taking.level + m.load p;
    weight = taking.weight + m.weight p;
  }

  -- it closes, since it is full
  abbrev pub closes_after : Bool
  closes_after = m.full (m.class p) taken.count taken.level

  -- the ledger with the piece accepted
  abbrev pub ledger_after : Ledger
  ledger_after = record {
    bank = record { slots = slice_set s.bank.slots (m.class p - 1) (cond closes_after nothing taken) };
    accepted = s.accepted + 1;
    opened = cond goes_on s.opened (s.opened + 1);
    used = cond goes_on s.used (s.used + m.cost (m.class p));
    weight = s.weight + m.weight p;
  }

  -- the closing line of a container, with used cost and floor as they are after the put
  abbrev pub closing_of : Slot → ClosingLine
  closing_of t = record {
    container = t.container;
    class = m.class p;
    pieces = t.count;
    level = t.level;
    weight = t.weight;
    used = ledger_after.used;
    floor = floor_of m.ceiling ledger_after.weight;
  }

  -- the answer
  abbrev pub placing : Placing
  placing = record {
    container = taking.container;
    class = m.class p;
    before = cond closes_before (Some (closing_of found)) None;
    after = cond closes_after (Some (closing_of taken)) None;
  }

  -- the closing lines that this put adds
  abbrev pub closings : ℕ
  closings = length (closing_lines placing)

  -- the last two causes of refusal; `places` and `closes` are the unwritten lines of the two lists
  abbrev pub late_answer : ℕ → ℕ → Result Placing PutRefusal
  late_answer places closes =
      cond (nat_le 100000 s.accepted) (Err SeasonFull) (cond (places == 0 || nat_lt closes closings) (Err ListFull) (Ok placing))

  -- before them, what the kind says of the piece
  abbrev pub kind_answer : Option PieceRefusal → ℕ → ℕ → Result Placing PutRefusal
  kind_answer (Some r) places closes = Err (NotAdmitted r)
  kind_answer None places closes = late_answer places closes

  -- before that, a piece number of 0
  abbrev pub put_answer : ℕ → ℕ → Result Placing PutRefusal
  put_answer places closes = cond (p.number == 0) (Err NoNumber) (kind_answer (m.refusal p) places closes)

-- a refused put leaves the ledger as it was
abbrev pub ledger_by : Meaning → Ledger → Piece → Result Placing PutRefusal → Ledger
ledger_by m s p (Ok a) = ledger_after m s p
ledger_by m s p (Err r) = s

-- the ledger after a put, refused or not
abbrev pub put_ledger : Meaning → Ledger → Piece → ℕ → ℕ → Ledger
put_ledger m s p places closes = ledger_by m s p (put_answer m s p places closes)

-- what the containers now open cost
abbrev pub open_cost : Meaning → Ledger → ℕ
open_cost m s = sum_by (λ c. cond (stands (open_in s c)) (m.cost c) 0) (upto 104)

-- what a report tells
abbrev pub report : Meaning → Ledger → Report
report m s = record {
  accepted = s.accepted;
  opened = s.opened;
  used = s.used;
  unclosed = open_cost m s;
  weight = s.weight;
  floor = floor_of m.ceiling s.weight;
}

-- a call with its answer
pub data Call : Type 0 where
  a_put : Piece → Result Placing PutRefusal → Call
  a_report : Report → Call

-- Make the calls h one after another on a new packer over m: they get the answers that h has, and s is left.
pub data Ran (m : Meaning) : List Call → Ledger → Type 0 where
  made : Ran m [] new_ledger
  then_put : {h : List Call} {s : Ledger} → Ran m h s → (p : Piece) (places closes : ℕ) → Ran m (h ++ (a_put p (put_answer m s p places closes) ∷ [])) (put_ledger m s p places closes)
  then_report : {h : List Call} {s : Ledger} → Ran m h s → Ran m (h ++ (a_report (report m s) ∷ [])) s
