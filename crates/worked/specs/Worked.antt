-- The worked cases of the rules, jointly as one fact about the definitions. Assumes nothing.
use Rattle.std.specs.Prelude.{◌≡◌, ℕ, List, [], ◌∷◌, Some, None, Ok, Err, Option, Result}
use Rattle.refusals.specs.declared.PieceRefusal.TheVariants.{Finish, First}
use Rattle.refusals.specs.declared.PutRefusal.{PutRefusal}
use Rattle.refusals.specs.declared.PutRefusal.TheVariants.{NotAdmitted}
use Rattle.archive.specs.declared.line.ClosingLine.{ClosingLine}
use Rattle.kinds.specs.declared.piece.Piece.{Piece}
use Rattle.kinds.specs.Kind.{Meaning}
use Rattle.kinds.specs.Bars.{bars}
use Rattle.kinds.specs.Totes.{totes}
use Rattle.kinds.specs.Strips.{strips}
use Rattle.layers.specs.Allowance.{allowance}
use Rattle.layers.specs.Finishes.{finishes}
use Rattle.ledger.specs.declared.Ledger.{Ledger}
use Rattle.ledger.specs.declared.Placing.{Placing}
use Rattle.ledger.specs.Rules.{new_ledger, put_answer, put_ledger, report}

-- a piece of these measures
abbrev pub cut : ℕ → ℕ → ℕ → Piece
cut a b f = record { number = 1; first = a; second = b; finish = f }

-- a piece of this length
abbrev pub long : ℕ → Piece
long a = cut a 0 0

-- pieces of these lengths put in turn, with room for two lines in each list: the answers
abbrev pub answers : Meaning → Ledger → List ℕ → List (Result Placing PutRefusal)
answers m s [] = []
answers m s (a ∷ ls) = put_answer m s (long a) 2 2 ∷ answers m (put_ledger m s (long a) 2 2) ls

-- and the ledger at the end
abbrev pub at_end : Meaning → Ledger → List ℕ → Ledger
at_end m s [] = s
at_end m s (a ∷ ls) = at_end m (put_ledger m s (long a) 2 2) ls

-- the seven fields of a closing line
abbrev pub closing : ℕ → ℕ → ℕ → ℕ → ℕ → ℕ → ℕ → Option ClosingLine
closing n c k l w u f = Some (record { container = n; class = c; pieces = k; level = l; weight = w; used = u; floor = f })

-- an answer with its container and class, and what closed before and after
abbrev pub at : ℕ → ℕ → Option ClosingLine → Option ClosingLine → Result Placing PutRefusal
at n c before after = Ok (record { container = n; class = c; before = before; after = after })

-- seven rails, and between them one that is too long
abbrev pub rails : List ℕ
rails = 7 ∷ 5 ∷ 4 ∷ 13 ∷ 6 ∷ 4 ∷ 3 ∷ 2 ∷ []

-- all worked cases
pub record Worked : Type 0 where
  -- bars of 12 with three classes
  pub bars_answer : answers (bars 12 3) new_ledger rails ≡
      at 1 1 None (closing 1 1 1 7 48 1 1)
      ∷ at 2 2 None None
      ∷ at 3 3 None None
      ∷ Err (NotAdmitted First)
      ∷ at 2 2 None (closing 2 2 2 11 48 3 2)
      ∷ at 3 3 None None
      ∷ at 3 3 None None
      ∷ at 4 3 (closing 3 3 3 11 66 4 3) None
      ∷ []
  pub bars_report : report (bars 12 3) (at_end (bars 12 3) new_ledger rails) ≡ record { accepted = 7; opened = 4; used = 4; unclosed = 1; weight = 174; floor = 3 }
  -- totes of 10 with two classes and three pieces at most
  pub tote_figures : ((totes 10 2 3).unit ≡ 30) × ((totes 10 2 3).ceiling ≡ 90) × ((totes 10 2 3).weight (long 1) ≡ 16)
  pub tote_filled : answers (totes 10 2 3) new_ledger (1 ∷ 1 ∷ 1 ∷ []) ≡ at 1 2 None None ∷ at 1 2 None None ∷ at 1 2 None (closing 1 2 3 3 48 1 1) ∷ []
  -- strips of 10
  pub strip_narrow : ((strips 10).class (cut 5 3 0) ≡ 3) × ((strips 10).weight (cut 5 3 0) ≡ 60)
  pub strip_wide : ((strips 10).class (cut 6 3 0) ≡ 16) × ((strips 10).weight (cut 6 3 0) ≡ 72)
  pub strip_cost : (strips 10).cost ((strips 10).class (cut 5 5 0)) ≡ 8
  -- an allowance of 1, and two finishes, over bars of 12 with three classes
  pub allowance_refuses : (allowance 1 (bars 12 3)).refusal (long 12) ≡ Some First
  pub allowance_class : (allowance 1 (bars 12 3)).class (long 6) ≡ 1
  pub finishes_class : (finishes 2 (bars 12 3)).class (cut 5 0 1) ≡ 5
  pub finishes_refuse : (finishes 2 (bars 12 3)).refusal (cut 5 0 2) ≡ Some Finish
