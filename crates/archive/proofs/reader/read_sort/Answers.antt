use Rattle.std.proofs.Common.{◌≡◌, true, ◌+◌, ◌^◌, ◌<◌, length, get_or, drop, Ok, Err, sym, ap, ◌∙◌, arith, length-set}
use Rattle.std.proofs.lemmas.List.{get_or-set_other}
use Rattle.std.proofs.lemmas.Result.{err_from_is_err_and}
use Rattle.archive.specs.Fields.{field}
use Rattle.archive.proofs.Turns.{even_from, below_from, turn_stands, turn_absent, turn_stopped, turns_end, room, fields_fit, parsed_fields}
use Rattle.archive.proofs.reader.read_sort.Goals as goal
use Rattle.archive.proofs.reader.read_sort.Goals.{then-left-eq1+in_ok-values, else-left-eq1}

pub returns-in_err-values : goal.returns-in_err-values
returns-in_err-values g c =
    let ws = g.S.Sort.WIDTHS in
    let p = err_from_is_err_and c.from_residual.result c.from_residual.ensures.1 in
    let below : c.args.bits < 2 ^ length ws = rw g.met.S.Sort.many (below_from c.args.bits g.row.N c.if-bits-ne0.false) in
    let here : c.loop-i.i < length ws = omega (arith, g.met.S.Sort.many) in
    let stop = turn_stopped c.loop-i.values ws c.args.bytes.now c.loop-i.i c.loop-i.left c.loop-i.at here c.in_err-values.field-0.0 c.if-left-eq1.true (ap (λ x. field true (get_or x c.loop-i.i 0) c.loop-i.at (drop c.loop-i.at c.args.bytes.now)) (sym c.WIDTHS.ensures) ∙ (sym c.field_at.ensures ∙ c.in_err-values.was)) in
    rw (p.1, p.2) (parsed_fields g.S.Sort.TAG c.args.bits c.args.bytes.now ws g.met.S.Sort.widths below (Err c.in_err-values.field-0.0) (sym stop ∙ c.loop-i.invariant.step))

pub loop-i-preserved : goal.loop-i-preserved
loop-i-preserved g c =
    let ws = g.S.Sort.WIDTHS in
    let vs = c.loop-i.values in
    let bs = c.args.bytes.now in
    let i = c.loop-i.i in
    let at = c.loop-i.at in
    let inv = c.loop-i.invariant in
    let here : i < length ws = omega (arith, g.met.S.Sort.many) in
    let there : i < length vs = omega (arith, inv.many) in
    elim c.if-left-eq1.branch [
      | then-left-eq1+in_ok-values w ↦
          (let v = w.in_ok-values.field-0 in
          let ok : field true (get_or ws i 0) at (drop at bs) ≡ Ok v = ap (λ x. field true (get_or x i 0) at (drop at bs)) (sym c.WIDTHS.ensures) ∙ (sym w.field_at.ensures ∙ w.in_ok-values.was) in
          let moved : c.if-left-eq1.at ≡ at + get_or ws i 0 = w.at-is ∙ ap (λ x. at + get_or x i 0) c.WIDTHS.ensures in
          record {
            step = rw (w.values-is, moved) (turn_stands vs ws bs i c.loop-i.left at here v there w.if-left-eq1.true ok ∙ inv.step);
            inside = rw moved (room (get_or ws i 0) at bs v inv.inside ok);
            many = rw w.values-is (length-set vs i v ∙ inv.many);
            zeros = λ k h. rw w.values-is (get_or-set_other vs i k v 0 (λ z. omega arith) ∙ inv.zeros k (omega arith));
          })
      | else-left-eq1 w ↦ record {
        step = rw (w.values-is, w.at-is) (turn_absent vs ws bs i c.loop-i.left at here there (inv.zeros i (omega arith)) (even_from c.loop-i.left w.if-left-eq1.false) ∙ inv.step);
        inside = rw w.at-is inv.inside;
        many = rw w.values-is inv.many;
        zeros = λ k h. rw w.values-is (inv.zeros k (omega arith));
      }
    ]

pub from_values-requires : goal.from_values-requires
from_values-requires g c =
    let ws = g.S.Sort.WIDTHS in
    let vs = c.loop-i.values in
    let below : c.args.bits < 2 ^ length ws = rw g.met.S.Sort.many (below_from c.args.bits g.row.N c.if-bits-ne0.false) in
    let all = turns_end vs ws (drop c.loop-i.at c.args.bytes.now) c.loop-i.i c.loop-i.left c.loop-i.at _ (omega (arith, g.met.S.Sort.many)) (omega (arith, g.met.S.Sort.many, c.loop-i.invariant.many)) c.loop-i.invariant.step in
    (omega (arith, g.met.S.Sort.few), fields_fit ws c.args.bits c.args.bytes.now vs c.loop-i.at (λ i. omega (arith, c.type_inv.bytes i)) below all)
