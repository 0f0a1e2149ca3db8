use Rattle.std.proofs.Common.{◌≡◌, ◌+◌, ◌≤◌, sum_by, get_or, sym, ap, ◌∙◌, arith}
use Rattle.kinds.specs.Kind.{Lawful}
use Rattle.ledger.specs.declared.Slot.{Slot}
use Rattle.ledger.specs.Rules.{upto, nothing}
use Rattle.ledger.proofs.Sound.{open_cost_in}
use Rattle.packer.proofs.Sums.{next_yes, next_no, slot_at, open_upto}
use Rattle.packer.proofs.Packer.open_cost.Goals as goal
use Rattle.packer.proofs.Packer.open_cost.Goals.{then-at-ne0, else-at-ne0}

pub loop-i-preserved : goal.loop-i-preserved
loop-i-preserved g c =
    let k = c.args.self.now.kind in
    let m = g.K.Kind.meaning k in
    let law : Lawful m = g.met.K.Kind.lawful k in
    let s = c.args.self.now.ledger in
    let i = c.loop-i.i in
    let high : i + 1 ≤ 104 = omega (arith, c.loop-i-test.true, c.classes-i-end.ensures, law.few_classes) in
    let found : c.at.result ≡ get_or s.bank.slots i nothing = c.at.ensures ∙ slot_at s i high in
    let count : c.at.result.count ≡ (get_or s.bank.slots i nothing).count = ap (λ (t : Slot). t.count) found in
    elim c.if-at-ne0.branch [
      | then-at-ne0 w ↦ (
        omega (arith, w.sum-is, w.cost-sum.ensures.value, c.loop-i.invariant.0, next_yes m s i (λ z. w.if-at-ne0.true (count ∙ z))),
        omega (arith, w.sum-is, w.cost-sum.ensures.high, c.loop-i.invariant.1),
      )
      | else-at-ne0 w ↦
          (omega (arith, w.sum-is, c.loop-i.invariant.0, next_no m s i (sym count ∙ w.if-at-ne0.false)), omega (arith, w.sum-is, c.loop-i.invariant.1))
    ]

pub returns : goal.returns
returns g c =
    let k = c.args.self.now.kind in
    let m = g.K.Kind.meaning k in
    let s = c.args.self.now.ledger in
    let e : c.loop-i.i ≡ m.classes = omega (arith, c.loop-i-test.false, c.loop-i.auto.i-end, c.classes-i-end.ensures) in
    c.loop-i.invariant.0 ∙ ap (λ n. sum_by (open_cost_in m s) (upto n)) e ∙ open_upto m (g.met.K.Kind.lawful k) s
