-- A kind whose containers have two halves: a piece is one half or a whole. Assumes nothing.
use Rattle.std.specs.Prelude.{◌≡◌, ◌+◌, ◌*◌, ◌≤◌, Bool, true, cond, ◌&&◌, Some, None, sum_by, All, ◌==◌, nat_le}
use Rattle.refusals.specs.declared.PieceRefusal.TheVariants.{First}
use Rattle.kinds.specs.declared.piece.Piece.{Piece}
use Rattle.kinds.specs.Kind.{Meaning, between}

-- a first measure of 1 is one half, of 2 a whole; nothing else is admitted
abbrev pub sized : Piece → Bool
sized p = between 1 2 p.first

-- one class, in which a piece weighs what it measures
abbrev pub halves : Meaning
halves = record {
  code = 9;
  refusal = λ p. cond (sized p) None (Some First);
  classes = 1;
  class = λ p. cond (sized p) 1 0;
  cost = λ c. cond (c == 1) 1 0;
  standing = λ c. cond (c == 1) 1 0;
  unit = 1;
  ceiling = 2;
  weight = λ p. cond (sized p) p.first 0;
  load = λ p. cond (sized p) p.first 0;
  fits = λ c n l p. (c == 1 && sized p) && nat_le (l + p.first) 2;
  full = λ c n l. (c == 1) && nat_le 2 l;
  Allowed = λ ps h. All (λ p. sized p ≡ true) ps × (sum_by (λ p. p.first) ps ≤ 2 * h);
}
