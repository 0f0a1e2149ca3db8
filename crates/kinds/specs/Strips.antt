-- Strips of one width, cut into rows whose heights are powers of two. Assumes nothing.
use Rattle.std.specs.Prelude.{◌≡◌, ℕ, zero, suc, ◌+◌, ◌-◌, ◌*◌, ◌^◌, ◌≤◌, Bool, false, cond, not, ◌&&◌, Some, None, sum_by, Option, All, ◌==◌, nat_le}
use Rattle.refusals.specs.declared.PieceRefusal.{PieceRefusal}
use Rattle.refusals.specs.declared.PieceRefusal.TheVariants.{Finish, First, Second}
use Rattle.refusals.specs.declared.MakeRefusal.{MakeRefusal}
use Rattle.refusals.specs.declared.MakeRefusal.TheVariants.{Capacity}
use Rattle.kinds.specs.declared.piece.Piece.{Piece}
use Rattle.kinds.specs.Kind.{Meaning, told, between}

-- why no strips of the width C are made; None where they are
abbrev pub strips_refusal : ℕ → Option MakeRefusal
strips_refusal C = cond (not (between 1 1000000 C)) (Some Capacity) None

-- g, g + 1, .. g + n: the first whose power of two is at least b
abbrev pub rank_from : ℕ → ℕ → ℕ → ℕ
rank_from zero g b = g
rank_from (suc n) g b = cond (nat_le b (2 ^ g)) g (rank_from n (g + 1) b)

-- the least g with 2 ^ g at least b, for a height of at most 4096
unfoldable pub rank : ℕ → ℕ
rank b = rank_from 12 0 b

-- narrow classes are 1 to 13
abbrev pub narrow : ℕ → Bool
narrow c = between 1 13 c

-- wide ones are 14 to 26
abbrev pub wide : ℕ → Bool
wide c = between 14 26 c

-- the height of a row of the class c, and 0 of no class
abbrev pub row_height : ℕ → ℕ
row_height c = cond (narrow c) (2 ^ (c - 1)) (cond (wide c) (2 ^ (c - 14)) 0)

-- a width from 1 to C and a height from 1 to 4096
abbrev pub strip_refusal : ℕ → Piece → Option PieceRefusal
strip_refusal C p = cond (not (p.finish == 0)) (Some Finish) (cond (not (between 1 C p.first)) (Some First) (cond (not (between 1 4096 p.second)) (Some Second) None))

-- what a piece covers
abbrev pub area : Piece → ℕ
area p = p.first * p.second

-- a piece at most half as wide as the strip is narrow
abbrev pub strips : ℕ → Meaning
strips C = record {
  code = 3;
  refusal = strip_refusal C;
  classes = 26;
  class = λ p. told (strip_refusal C p) (rank p.second + cond (nat_le (2 * p.first) C) 1 14) 0;
  cost = row_height;
  standing = λ c. cond (narrow c) (row_height c) 0;
  unit = C;
  ceiling = 4 * C;
  weight = λ p. told (strip_refusal C p) (4 * area p) 0;
  load = λ p. told (strip_refusal C p) p.first 0;
  fits = λ c n l p. told (strip_refusal C p) (cond (narrow c) (nat_le (l + p.first) C) (wide c && n == 0)) false;
  full = λ c n l. wide c && nat_le 1 n;
  Allowed = λ ps h. All (λ p. (strip_refusal C p ≡ None) × (p.second ≤ h)) ps × (sum_by area ps ≤ C * h);
}
