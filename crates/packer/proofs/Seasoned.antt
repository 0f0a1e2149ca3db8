-- A put as a step of a season, and the sum of a report. Assumes nothing.
use Rattle.std.proofs.Common.{◌*◌, ◌≡◌, ℕ, ◌≤◌, List, [], ◌∷◌, ◌++◌, Result, sym, subst}
use Rattle.kinds.specs.declared.piece.Piece.{Piece}
use Rattle.ledger.specs.declared.Ledger.{Ledger}
use Rattle.ledger.specs.declared.Placing.{Placing}
use Rattle.refusals.specs.declared.PutRefusal.{PutRefusal}
use Rattle.kinds.specs.Kind.{Meaning, Lawful}
use Rattle.ledger.specs.Rules.{floor_of, Call, a_put, a_report, Ran, then_put, then_report, put_answer, put_ledger}
use Rattle.ledger.specs.declared.Report.{Report}
use Rattle.ledger.specs.Rules.{report as told_by}
use Rattle.ledger.specs.Season.{Season}
use Rattle.ledger.proofs.Floors.{floor_covers, floor_least}
use Rattle.ledger.proofs.Seasons.{season}

module _ {K : Type 0} (M : K → Meaning) (k k' : K) (s s' : Ledger) (p : Piece) (a : Result Placing PutRefusal) (places closes : ℕ) (same : k' ≡ k) (left : s' ≡ put_ledger (M k) s p places closes) (told : a ≡ put_answer (M k) s p places closes) where
  pub step_ran : (h : List Call) → Ran (M k) h s → Ran (M k') (h ++ (a_put p a ∷ [])) s'
  step_ran h r =
      subst (λ x. Ran (M x) (h ++ (a_put p a ∷ [])) s') (sym same)
      (subst (λ y. Ran (M k) (h ++ (a_put p y ∷ [])) s') (sym told)
      (subst (Ran (M k) _) (sym left) (then_put r p places closes)))

-- a report as a step of a season
module _ (m : Meaning) (law : Lawful m) (s : Ledger) (r : Report) (is : r ≡ told_by m s) where
  pub report_ran : (h : List Call) → Ran m h s → Ran m (h ++ (a_report r ∷ [])) s
  report_ran h ran = subst (λ x. Ran m (h ++ (a_report x ∷ [])) s) (sym is) (then_report ran)

  pub season_is : (h : List Call) → Ran m h s → Season m h r
  season_is h ran = subst (Season m h) (sym is) (season m law h s ran)

-- a floor is the least that covers the weight
pub floor_is : (m : Meaning) → Lawful m → (w n : ℕ) → n ≡ floor_of m.ceiling w → (w ≤ m.ceiling * n) × ((k : ℕ) → w ≤ m.ceiling * k → n ≤ k)
floor_is m law w n is = rw is (floor_covers m.ceiling w law.ceiling_range.0, λ k. floor_least m.ceiling w k law.ceiling_range.0)
