-- The floor is the least number whose product with the ceiling is at least the weight. Assumes nothing.
use Rattle.std.proofs.Common.{ℕ, ◌+◌, ◌-◌, ◌*◌, ◌≤◌, arith}
use Rattle.std.proofs.lemmas.Nat.{div_below}
use Rattle.ledger.specs.Rules.{floor_of}

pub floor_covers : (c w : ℕ) → 1 ≤ c → w ≤ c * floor_of c w
floor_covers c w h = omega arith

pub floor_least : (c w k : ℕ) → 1 ≤ c → w ≤ c * k → floor_of c w ≤ k
floor_least c w k h l = omega (arith, div_below (w + (c - 1)) c (k + 1) h (omega (arith, l)))
