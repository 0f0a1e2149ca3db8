use Rattle.std.proofs.Common.{ap, ◌∙◌, arith}
use Rattle.std.specs.Int.Digits.{number_from_digits}
use Rattle.archive.proofs.Turns.{answered}
use Rattle.archive.proofs.reader.read.Goals as goal

pub returns-in-0 : goal.returns-in-0
returns-in-0 c =
    let map = c.in-Some.ensures.lookup.0 in
    let a = answered c.args.bytes.now c.number-map.result 0 c.read_sort.result (λ i. omega (arith, c.type_inv.bytes i)) map.1 (c.number-map.ensures ∙ ap (number_from_digits 256) map.2) c.in-0.is (omega arith) c.read_sort.ensures in
    record { value = a.0; front = a.1 }

pub returns-in-1 : goal.returns-in-1
returns-in-1 c =
    let map = c.in-Some.ensures.lookup.0 in
    let a = answered c.args.bytes.now c.number-map.result 1 c.read_sort-in-1.result (λ i. omega (arith, c.type_inv.bytes i)) map.1 (c.number-map.ensures ∙ ap (number_from_digits 256) map.2) c.in-1.is (omega arith) c.read_sort-in-1.ensures in
    record { value = a.0; front = a.1 }

pub returns-in-2 : goal.returns-in-2
returns-in-2 c =
    let map = c.in-Some.ensures.lookup.0 in
    let a = answered c.args.bytes.now c.number-map.result 2 c.read_sort-in-2.result (λ i. omega (arith, c.type_inv.bytes i)) map.1 (c.number-map.ensures ∙ ap (number_from_digits 256) map.2) c.in-2.is (omega arith) c.read_sort-in-2.ensures in
    record { value = a.0; front = a.1 }
