-- Where a piece lies in its container. Assumes nothing.
use Rattle.std.specs.Prelude.{◌≡◌, ℕ}
use Rattle.kinds.specs.declared.piece.Piece.{Piece}
use Rattle.kinds.specs.Kind.{Meaning, Admitted, told}

-- level, piece: where the piece begins, from the left end, in a container that it finds at this level
abbrev pub Layout : Type 0
Layout = ℕ → Piece → ℕ

-- The law that every laid kind owes: a piece begins where those before it end.
pub record LaidOut (m : Meaning) (place : Layout) : Type 0 where
  pub admitted_begins_at_level : (l : ℕ) (p : Piece) → Admitted m p → place l p ≡ l
  pub refused_has_no_place : (l : ℕ) (p : Piece) → (Admitted m p → ⊥) → place l p ≡ 0

-- what a kind tells that lays its pieces side by side
abbrev pub side_by_side : Meaning → Layout
side_by_side m l p = told (m.refusal p) l 0
