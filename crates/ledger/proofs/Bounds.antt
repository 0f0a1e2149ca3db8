-- No number of a packer outgrows its field. Assumes nothing.
use Rattle.std.proofs.Common.{◌≡◌, ℕ, ◌+◌, ◌-◌, ◌*◌, ◌^◌, ◌<◌, ◌≤◌, length, get_or, set, replicate, inl, inr, mul-le-mul_right, arith}
use Rattle.std.proofs.lemmas.List.{get_or-replicate, get_or_past, get_or-set_same, get_or-set_other, length-set}
use Rattle.std.proofs.lemmas.Bool.{cond_both, cases_lt, cases_eq, leb-true, and_parts}
use Rattle.kinds.specs.declared.piece.Piece.{Piece}
use Rattle.ledger.specs.declared.Slot.{Slot}
use Rattle.ledger.specs.declared.Ledger.{Ledger}
use Rattle.kinds.specs.Kind.{Meaning, Lawful, Admitted}
use Rattle.ledger.specs.Rules.{nothing, new_ledger, goes_on, taking, taken, closes_after, ledger_after}
use Rattle.ledger.specs.Bounded.{Within, Bounded}

pub class_range : (m : Meaning) → Lawful m → (p : Piece) → Admitted m p → (1 ≤ m.class p) × (m.class p ≤ 104)
class_range m law p a = omega (arith, law.admitted_has_class p a, law.few_classes)

pub cost_bounded : (m : Meaning) → Lawful m → (p : Piece) → Admitted m p → m.cost (m.class p) ≤ 2 ^ 44
cost_bounded m law p a =
    let r = law.cost_range (m.class p) (law.admitted_has_class p a) in
    omega (arith, r.1, mul-le-mul_right (m.cost (m.class p)) law.unit_some)

-- every slot of a bank with one slot changed
module _ (s t : Ledger) (b : Bounded s) (grows : s.accepted ≤ t.accepted) (heavier : s.weight ≤ t.weight) (n : ℕ) (x : Slot) (w : Within t x) where
  changed : Within t (get_or (set s.bank.slots n x) n nothing)
  changed =
      elim (cases_lt n (length s.bank.slots)) [
        | inl l ↦ rw (get_or-set_same s.bank.slots n x nothing l) w
        | inr l ↦ rw (get_or_past (set s.bank.slots n x) n nothing (omega (arith, length-set s.bank.slots n x))) (omega arith)
      ]

  pub slots_after : (i : ℕ) → Within t (get_or (set s.bank.slots n x) i nothing)
  slots_after i =
      elim (cases_eq i n) [
        | inl e ↦ rw e changed
        | inr ne ↦ rw (get_or-set_other s.bank.slots n i x nothing ne) (omega (arith, b.4 i))
      ]

module _ (m : Meaning) (law : Lawful m) (s : Ledger) (b : Bounded s) (p : Piece) (admitted : Admitted m p) where
  -- the container that takes the piece, before and after it does
  pub taking_bounded : ((taking m s p).count ≤ s.accepted) × ((taking m s p).level + m.load p ≤ 1000000) × ((taking m s p).weight ≤ s.weight)
  taking_bounded =
      let l = law.load_range p admitted in
      cond_both (goes_on m s p) _ _ (λ (t : Slot). (t.count ≤ s.accepted) × (t.level + m.load p ≤ 1000000) × (t.weight ≤ s.weight))
      (λ e. let h = b.4 (m.class p - 1) in (h.0, leb-true _ _ (and_parts _ _ (and_parts _ _ e).1).0, h.2)) (λ e. omega arith)

  pub bounded_after : s.accepted < 100000 → Bounded (ledger_after m s p)
  bounded_after few =
      let w = law.weight_range p admitted in
      let c = cost_bounded m law p admitted in
      let t = taking_bounded in (
        omega arith,
        cond_both (goes_on m s p) s.opened (s.opened + 1) (λ n. n ≤ s.accepted + 1) (λ e. omega (arith, b.1)) (λ e. omega (arith, b.1)),
        cond_both (goes_on m s p) s.used (s.used + m.cost (m.class p)) (λ n. n ≤ (s.accepted + 1) * 2 ^ 44) (λ e. omega (arith, b.2)) (λ e. omega (arith, b.2, c)),
        omega (arith, b.3, w),
        slots_after s (ledger_after m s p) b (omega arith) (omega arith) (m.class p - 1) _
            (cond_both (closes_after m s p) nothing (taken m s p) (Within (ledger_after m s p)) (λ e. omega arith) (λ e. omega arith)),
      )

pub new_bounded : Bounded new_ledger
new_bounded = (omega arith, omega arith, omega arith, omega arith, λ i. rw (none i) (omega arith))
  where
    none : (i : ℕ) → get_or (replicate 104 nothing) i nothing ≡ nothing
    none i = elim (cases_lt i 104) [ inl l ↦ get_or-replicate 104 i nothing nothing l | inr l ↦ get_or_past (replicate 104 nothing) i nothing l ]
