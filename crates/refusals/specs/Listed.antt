-- Every refusal has a number from 1 to 15. Assumes nothing.
use Rattle.std.specs.Prelude.{ℕ, ◌≤◌}
use Rattle.std.proofs.Common.{arith}
use Rattle.refusals.specs.declared.PieceRefusal.{PieceRefusal}
use Rattle.refusals.specs.declared.PieceRefusal.TheVariants.{Finish, First, Second}
use Rattle.refusals.specs.declared.PutRefusal.{PutRefusal}
use Rattle.refusals.specs.declared.PutRefusal.TheVariants.{NoNumber, NotAdmitted, SeasonFull, ListFull}
use Rattle.refusals.specs.declared.MakeRefusal.{MakeRefusal}
use Rattle.refusals.specs.declared.MakeRefusal.TheVariants.{Capacity, ClassNumber, PieceLimit, Allowance, Finishes}
use Rattle.refusals.specs.declared.WriteRefusal.{WriteRefusal}
use Rattle.refusals.specs.declared.ReadRefusal.{ReadRefusal}
use Rattle.refusals.specs.declared.ReadRefusal.TheVariants.{Ended, NoField, Zero}
use Rattle.refusals.specs.Numbers.{number_of_piece, number_of_put, number_of_make, number_of_write, number_of_read}

-- a number from 1 to 15
abbrev pub Listed : ℕ → Type 0
Listed n = (1 ≤ n) × (n ≤ 15)

pub piece_listed : (r : PieceRefusal) → Listed (number_of_piece r)
piece_listed Finish = grind arith
piece_listed First = grind arith
piece_listed Second = grind arith

pub put_listed : (r : PutRefusal) → Listed (number_of_put r)
put_listed NoNumber = grind arith
put_listed (NotAdmitted refusal) = piece_listed refusal
put_listed SeasonFull = grind arith
put_listed ListFull = grind arith

pub make_listed : (r : MakeRefusal) → Listed (number_of_make r)
make_listed Capacity = grind arith
make_listed ClassNumber = grind arith
make_listed PieceLimit = grind arith
make_listed Allowance = grind arith
make_listed Finishes = grind arith

pub write_listed : (r : WriteRefusal) → Listed (number_of_write r)
write_listed r = grind arith

pub read_listed : (r : ReadRefusal) → Listed (number_of_read r)
read_listed (Ended at) = grind arith
read_listed (NoField at) = grind arith
read_listed (Zero at) = grind arith
