use Rattle.std.proofs.Common.{sym, subst, rules}
use Rattle.ledger.specs.Bounded.{Bounded}
use Rattle.ledger.proofs.Bounds.{bounded_after}
use Rattle.packer.specs.Shown.{free}
use Rattle.packer.specs.Steps.{entered}
use Rattle.packer.proofs.Seasoned.{step_ran}
use Rattle.packer.proofs.Packer.put.Goals as goal

pub returns-in_err-turn-clause-ran : goal.returns-in_err-turn-clause-ran
returns-in_err-turn-clause-ran g c = step_ran g.K.Kind.meaning _ _ _ _ c.args.piece _ (free c.args.places.now) (free c.args.closings.now) (search rules) (search rules) (search rules)

pub enter-requires-clause-bounded : goal.enter-requires-clause-bounded
enter-requires-clause-bounded g c =
    let k = c.args.self.now.kind in
    let s = c.args.self.now.ledger in
    let a = c.in_ok-turn.ensures.accepted in
    subst (λ t. Bounded (entered s t)) (sym a.turn) (bounded_after (g.K.Kind.meaning k) (g.met.K.Kind.lawful k) s c.args.self.now.bounded c.args.piece a.admitted a.few)

pub returns-clause-ran : goal.returns-clause-ran
returns-clause-ran g c = step_ran g.K.Kind.meaning _ _ _ _ c.args.piece _ (free c.args.places.now) (free c.args.closings.now) (search rules) (search rules) (search rules)
