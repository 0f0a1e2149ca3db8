-- The number of each cause of refusal. Assumes nothing.
use Rattle.std.specs.Prelude.{ℕ}
use Rattle.refusals.specs.declared.PieceRefusal.{PieceRefusal}
use Rattle.refusals.specs.declared.PieceRefusal.TheVariants.{Finish, First, Second}
use Rattle.refusals.specs.declared.PutRefusal.{PutRefusal}
use Rattle.refusals.specs.declared.PutRefusal.TheVariants.{NoNumber, NotAdmitted, SeasonFull, ListFull}
use Rattle.refusals.specs.declared.MakeRefusal.{MakeRefusal}
use Rattle.refusals.specs.declared.MakeRefusal.TheVariants.{Capacity, ClassNumber, PieceLimit, Allowance, Finishes}
use Rattle.refusals.specs.declared.WriteRefusal.{WriteRefusal}
use Rattle.refusals.specs.declared.ReadRefusal.{ReadRefusal}
use Rattle.refusals.specs.declared.ReadRefusal.TheVariants.{Ended, NoField, Zero}

-- a piece that a kind does not admit
abbrev pub number_of_piece : PieceRefusal → ℕ
number_of_piece Finish = 2
number_of_piece First = 3
number_of_piece Second = 4

-- a put
abbrev pub number_of_put : PutRefusal → ℕ
number_of_put NoNumber = 1
number_of_put (NotAdmitted refusal) = number_of_piece refusal
number_of_put SeasonFull = 5
number_of_put ListFull = 6

-- the making of a measure or a layer
abbrev pub number_of_make : MakeRefusal → ℕ
number_of_make Capacity = 7
number_of_make ClassNumber = 8
number_of_make PieceLimit = 9
number_of_make Allowance = 10
number_of_make Finishes = 11

-- the writing of an archive line
abbrev pub number_of_write : WriteRefusal → ℕ
number_of_write refusal = 12

-- the reading of one
abbrev pub number_of_read : ReadRefusal → ℕ
number_of_read (Ended at) = 13
number_of_read (NoField at) = 14
number_of_read (Zero at) = 15
