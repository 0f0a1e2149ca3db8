-- What the benchmark's functions answer. Assumes nothing.
use Rattle.std.specs.Prelude.{◌≡◌, List, ℕ}
use Rattle.kinds.specs.Kind.{Meaning}
use Rattle.ledger.specs.declared.Report.{Report}
use Rattle.ledger.specs.Rules.{Call}
use Rattle.ledger.specs.Season.{Season}

-- r is the used cost of a season over m that keeps the promise; which pieces were put is left open
abbrev pub Packed : Meaning → ℕ → Type 0
Packed m r = (h : List Call) × (x : Report) × Season m h x × (x.used ≡ r)
