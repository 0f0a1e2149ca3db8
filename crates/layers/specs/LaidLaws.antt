-- A layer over a kind that is laid out is laid out. Assumes nothing.
use Rattle.std.specs.Prelude.{◌≡◌, ℕ, Bool, true, false, cond, Some, None, Option, nat_lt, refl}
use Rattle.kinds.specs.Kind.{Meaning}
use Rattle.kinds.specs.Laid.{Layout, LaidOut}
use Rattle.refusals.specs.declared.PieceRefusal.{PieceRefusal}
use Rattle.refusals.specs.declared.PieceRefusal.TheVariants.{Finish}
use Rattle.layers.specs.Allowance.{widened, allowance}
use Rattle.layers.specs.Finishes.{plain, reckoned, finishes}
use Rattle.layers.specs.Laid.{allowance_layout, finishes_layout}

pub allowance_laid : (t : ℕ) {m : Meaning} {place : Layout} → LaidOut m place → LaidOut (allowance t m) (allowance_layout t place)
allowance_laid t law = record {
  admitted_begins_at_level = λ l p a. law.admitted_begins_at_level l (widened t p) a;
  refused_has_no_place = λ l p n. law.refused_has_no_place l (widened t p) n;
}

-- x is told of the finishes that are known (b), and r says why a piece of such a finish is refused
module _ (r : Option PieceRefusal) (x : ℕ) where
  told_admitted : (b : Bool) (l : ℕ) → (r ≡ None → x ≡ l) → cond b r (Some Finish) ≡ None → cond b x 0 ≡ l
  told_admitted true l h a = h a
  told_admitted false l h a = cc

  told_refused : (b : Bool) → ((r ≡ None → ⊥) → x ≡ 0) → (cond b r (Some Finish) ≡ None → ⊥) → cond b x 0 ≡ 0
  told_refused true h n = h n
  told_refused false h n = refl

pub finishes_laid : (F : ℕ) {m : Meaning} {place : Layout} → LaidOut m place → LaidOut (finishes F m) (finishes_layout F m place)
finishes_laid F {m = m} {place = place} law = record {
  admitted_begins_at_level = λ l p a. told_admitted (m.refusal (plain p)) (place l (plain p)) (nat_lt p.finish (reckoned F m)) l (law.admitted_begins_at_level l (plain p)) a;
  refused_has_no_place = λ l p n. told_refused (m.refusal (plain p)) (place l (plain p)) (nat_lt p.finish (reckoned F m)) (law.refused_has_no_place l (plain p)) n;
}
