use Rattle.std.proofs.Common.{refl, subst, ◌∙◌}
use Rattle.ledger.specs.Season.{Season}
use Rattle.bench.proofs.pack.Goals as goal

pub returns : goal.returns
returns g c =
    let k = c.loop-i.invariant.1 ∙ c.new-packer.ensures.kind in
    let s = c.report.ensures.season c.loop-i.invariant.0.0 c.loop-i.invariant.0.1 in
    (c.loop-i.invariant.0.0, c.report.result, subst (λ x. Season (g.K.Kind.meaning x) c.loop-i.invariant.0.0 c.report.result) k s, refl)
