use Rattle.std.proofs.Common.{◌≡◌, ◌*◌, ◌^◌, ◌≤◌, sum_by}
use Rattle.ledger.specs.Rules.{upto}
use Rattle.ledger.proofs.Sound.{open_cost_in}
use Rattle.packer.proofs.Packer.open_cost.Given as goal

abbrev pub invariant-loop-i : goal.invariant-loop-i
invariant-loop-i g l = (l.sum ≡ sum_by (open_cost_in (g.K.Kind.meaning l.self.kind) l.self.ledger) (upto l.i)) × (l.sum ≤ l.i * 2 ^ 44)
