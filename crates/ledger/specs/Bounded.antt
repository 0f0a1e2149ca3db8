-- What every ledger keeps, in plain numbers. Assumes nothing.
use Rattle.std.specs.Prelude.{ℕ, ◌*◌, ◌^◌, ◌≤◌, slice_index_or}
use Rattle.ledger.specs.declared.Slot.{Slot}
use Rattle.ledger.specs.declared.Ledger.{Ledger}
use Rattle.ledger.specs.Rules.{nothing}

-- of one slot, beside its ledger
abbrev pub Within : Ledger → Slot → Type 0
Within s t = (t.count ≤ s.accepted) × (t.level ≤ 1000000) × (t.weight ≤ s.weight)

-- and of the whole ledger
abbrev pub Bounded : Ledger → Type 0
Bounded s =
    (s.accepted ≤ 100000)
    × (s.opened ≤ s.accepted)
    × (s.used ≤ s.accepted * 2 ^ 44)
    × (s.weight ≤ s.accepted * 2 ^ 44)
    × ((i : ℕ) → Within s (slice_index_or s.bank.slots i nothing))
