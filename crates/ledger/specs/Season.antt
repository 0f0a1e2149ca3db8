-- What a season's calls and answers owe their reader. Assumes nothing.
use Rattle.std.specs.Prelude.{◌≡◌, ℕ, ◌+◌, ◌*◌, ◌≤◌, true, cond, not, List, [], ◌∷◌, map, Ok, Err, sum_by, filter, flat_map, All, ◌==◌, nat_eq}
use Rattle.std.specs.List.Sorted.{IsPermutation}
use Rattle.kinds.specs.declared.piece.Piece.{Piece}
use Rattle.ledger.specs.declared.Report.{Report}
use Rattle.kinds.specs.Kind.{Meaning, Admitted}
use Rattle.ledger.specs.declared.Ledger.{Ledger}
use Rattle.ledger.specs.Rules.{Call, a_put, a_report, upto, stands, found, fits_found}

-- Packings

-- some pieces, at some cost
pub record Container : Type 0 where
  pub pieces : List Piece
  pub cost : ℕ

-- allowed at that cost, which is at least 1
abbrev pub AllowedContainer : Meaning → Container → Type 0
AllowedContainer m k = (1 ≤ k.cost) × m.Allowed k.pieces k.cost

-- what a packing costs
abbrev pub cost_of : List Container → ℕ
cost_of ks = sum_by (λ k. k.cost) ks

-- allowed containers whose pieces, joined, are those pieces in some order
pub record AllowedPacking (m : Meaning) (ps : List Piece) (ks : List Container) : Type 0 where
  pub each_allowed : All (AllowedContainer m) ks
  pub same_pieces : IsPermutation (flat_map (λ k. k.pieces) ks) ps

-- what one open container in every class would cost, at standing costs
abbrev pub standing_cost : Meaning → ℕ
standing_cost m = sum_by m.standing (upto m.classes)

-- The calls and their answers

-- an accepted piece, with the container number and the class answered
pub record Placed : Type 0 where
  pub piece : Piece
  pub container : ℕ
  pub class : ℕ

-- the piece that a call placed, if it placed one
abbrev pub placed_by : Call → List Placed
placed_by (a_put p (Ok a)) = record { piece = p; container = a.container; class = a.class } ∷ []
placed_by (a_put p (Err r)) = []
placed_by (a_report r) = []

-- the pieces that calls placed, in their order
abbrev pub placed : List Call → List Placed
placed h = flat_map placed_by h

-- the pieces alone
abbrev pub pieces_of : List Placed → List Piece
pieces_of qs = map (λ q. q.piece) qs

-- the pieces answered with the container number n
abbrev pub pieces_in : ℕ → List Placed → List Piece
pieces_in n qs = pieces_of (filter (λ q. nat_eq q.container n) qs)

-- the class first answered with the container number n
abbrev pub class_in : ℕ → List Placed → ℕ
class_in n [] = 0
class_in n (q ∷ qs) = cond (q.container == n) q.class (class_in n qs)

-- the container numbers answered, each once, in the order in which they first came
abbrev pub numbers : List Placed → List ℕ
numbers [] = []
numbers (q ∷ qs) = q.container ∷ filter (λ n. not (n == q.container)) (numbers qs)

-- container n, at the cost of its class
abbrev pub container_in : Meaning → List Placed → ℕ → Container
container_in m qs n = record { pieces = pieces_in n qs; cost = m.cost (class_in n qs) }

-- the accepted pieces, grouped by answered container number
abbrev pub grouped : Meaning → List Placed → List Container
grouped m qs = map (container_in m qs) (numbers qs)

-- What the calls h, and a report r made after them, owe over the kind m
pub record Season (m : Meaning) (h : List Call) (r : Report) : Type 0 where
  -- grouped by answered number, an allowed packing that costs what is reported
  pub one_class : All (λ q. q.class ≡ class_in q.container (placed h)) (placed h)
  pub packed : AllowedPacking m (pieces_of (placed h)) (grouped m (placed h))
  pub cost_used : cost_of (grouped m (placed h)) ≡ r.used
  -- no other plan stays below the floor
  pub no_cheaper : (ks : List Container) → AllowedPacking m (pieces_of (placed h)) ks → r.floor ≤ cost_of ks
  -- how far the used cost can lie above it
  pub ratio : m.unit * r.used ≤ m.ceiling * r.floor + m.unit * standing_cost m

-- The floor of a report is the least number whose product with the ceiling is at least the weight.
abbrev pub LeastFloor : Meaning → Report → Type 0
LeastFloor m r = (r.weight ≤ m.ceiling * r.floor) × ((k : ℕ) → r.weight ≤ m.ceiling * k → r.floor ≤ k)

-- The rules' cap on the level does not bite: where a container stands open that calls led to, a piece fits it exactly when the kind says so.
abbrev pub CapIdle : Meaning → Ledger → Piece → Type 0
CapIdle m s p = Admitted m p → stands (found m s p) ≡ true → fits_found m s p ≡ m.fits (m.class p) (found m s p).count (found m s p).level p
