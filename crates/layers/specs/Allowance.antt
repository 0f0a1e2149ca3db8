-- An allowance over a kind: what is added to each first measure. Assumes nothing.
use Rattle.std.specs.Prelude.{ℕ, ◌+◌, cond, not, map, Some, None, Option}
use Rattle.refusals.specs.declared.MakeRefusal.{MakeRefusal}
use Rattle.refusals.specs.declared.MakeRefusal.TheVariants.{Allowance}
use Rattle.kinds.specs.declared.piece.Piece.{Piece}
use Rattle.kinds.specs.Kind.{Meaning, at_first, between}

-- why no allowance of t is made; None where one is
abbrev pub allowance_refusal : ℕ → Option MakeRefusal
allowance_refusal t = cond (not (between 0 1000 t)) (Some Allowance) None

-- the piece that is passed down: t longer, or 0 where its measure is out of range
abbrev pub widened : ℕ → Piece → Piece
widened t p = at_first p (cond (between 1 1000000 p.first) (p.first + t) 0)

-- all that the layer tells is told below, of the piece passed down
abbrev pub allowance : ℕ → Meaning → Meaning
allowance t m = record {
  code = m.code;
  refusal = λ p. m.refusal (widened t p);
  classes = m.classes;
  class = λ p. m.class (widened t p);
  cost = m.cost;
  standing = m.standing;
  unit = m.unit;
  ceiling = m.ceiling;
  weight = λ p. m.weight (widened t p);
  load = λ p. m.load (widened t p);
  fits = λ c n l p. m.fits c n l (widened t p);
  full = m.full;
  Allowed = λ ps h. m.Allowed (map (widened t) ps) h;
}
