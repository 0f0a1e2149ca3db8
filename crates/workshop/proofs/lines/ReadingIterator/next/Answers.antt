use Rattle.std.proofs.Common.{◌-◌, length, drop, rules, arith}
use Rattle.std.proofs.lemmas.List.{length-take}
use Rattle.workshop.proofs.Progress.{moves}
use Rattle.workshop.proofs.lines.ReadingIterator.next.Goals as goal

pub returns-clause-goes : goal.returns-clause-goes
returns-clause-goes c =
    let f = c.in-Ok.ensures.front in
    let k = moves _ _ _ f in
    let w = f.within in
    let xs = c.args.self.now.rest.now in
    let e = length-take (length xs - c.in-Ok.length) (drop c.in-Ok.length xs) in
    record { on = λ _. (tt, tt, omega (arith, e, k, w)); keeps = search rules; rests = λ _. tt }
