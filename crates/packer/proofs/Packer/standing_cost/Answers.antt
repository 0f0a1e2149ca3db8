use Rattle.std.proofs.Common.{◌≡◌, ◌+◌, ◌∙◌, sum_by, arith, rules}
use Rattle.std.specs.List.{range_with_len}
use Rattle.std.proofs.lemmas.Iterator.{YieldsList-from_range, YieldsList-from_map}
use Rattle.std.proofs.lemmas.Iterator.Consumers.{sum_by_from_yields_List, fits_by_from_yields_list}
use Rattle.kinds.specs.Kind.{Meaning}
use Rattle.ledger.specs.Rules.{upto}
use Rattle.packer.proofs.Sums.{sum_range, sum_fits, few_classes, any_standing}
use Rattle.packer.proofs.Packer.standing_cost.Goals as goal

pub sum-requires-clause-fits : goal.sum-requires-clause-fits
sum-requires-clause-fits g c =
    let k = c.args.self.now.kind in
    let m : Meaning = g.K.Kind.meaning k in
    let law = g.met.K.Kind.lawful k in
    fits_by_from_yields_list m.standing (range_with_len 1 m.classes) c.map.result _
    (YieldsList-from_map _ m.standing (YieldsList-from_range 1 (m.classes + 1) m.classes (cc) (omega arith)) c.map.ensures.closure (λ x r q k. search rules))
    (sum_fits m.standing (range_with_len 1 m.classes) (few_classes m law) (any_standing m law))

pub returns : goal.returns
returns g c =
    let k = c.args.self.now.kind in
    let m : Meaning = g.K.Kind.meaning k in
    let told : c.sum.result ≡ sum_by m.standing (upto m.classes) =
    sum_by_from_yields_List m.standing (range_with_len 1 m.classes) c.map.result _ c.sum.ensures.ran
    (YieldsList-from_map _ m.standing (YieldsList-from_range 1 (m.classes + 1) m.classes (cc) (omega arith)) c.map.ensures.closure (λ x r q k. search rules))
    ∙ sum_range m.standing m.classes
    in
    omega (arith, told)
