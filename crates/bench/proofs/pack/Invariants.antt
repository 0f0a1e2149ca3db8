use Rattle.std.proofs.Common.{◌≡◌, List}
use Rattle.ledger.specs.Rules.{Call, Ran}
use Rattle.bench.proofs.pack.Given as goal

abbrev pub invariant-loop-i : goal.invariant-loop-i
invariant-loop-i g l = ((h : List Call) × Ran (g.K.Kind.meaning l.packer.kind) h l.packer.ledger) × (l.packer.kind ≡ l.initial.packer.kind)
