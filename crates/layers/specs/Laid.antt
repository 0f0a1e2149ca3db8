-- Where a piece lies under a layer. Assumes nothing.
use Rattle.std.specs.Prelude.{ℕ, cond, nat_lt}
use Rattle.kinds.specs.Kind.{Meaning}
use Rattle.kinds.specs.Laid.{Layout}
use Rattle.layers.specs.Allowance.{widened}
use Rattle.layers.specs.Finishes.{plain, reckoned}

-- under an allowance of t: where the piece passed down lies
abbrev pub allowance_layout : ℕ → Layout → Layout
allowance_layout t below l p = below l (widened t p)

-- under F finishes over m: the same, of a finish that is known
abbrev pub finishes_layout : ℕ → Meaning → Layout → Layout
finishes_layout F m below l p = cond (nat_lt p.finish (reckoned F m)) (below l (plain p)) 0
