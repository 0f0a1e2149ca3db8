use Rattle.std.proofs.Common.{sym, refl, subst}
use Rattle.ledger.specs.Bounded.{Bounded}
use Rattle.ledger.specs.Rules.{Ran, made}
use Rattle.ledger.proofs.Bounds.{new_bounded}
use Rattle.packer.proofs.Packer.new.Goals as goal

pub returns : goal.returns
returns g c = record { made = c.new_ledger-ledger.ensures; kind = refl; ran = subst (Ran _ _) (sym c.new_ledger-ledger.ensures) made }

pub invariant_of-result : goal.invariant_of-result
invariant_of-result g c = record { bounded = subst Bounded (sym c.new_ledger-ledger.ensures) new_bounded }
