-- A kind that lays its pieces side by side is laid out. Assumes nothing.
use Rattle.kinds.specs.Kind.{Meaning}
use Rattle.kinds.specs.Laid.{LaidOut, side_by_side}
use Rattle.kinds.specs.Told.{told_yes, told_no}

pub side_by_side_laid : (m : Meaning) → LaidOut m (side_by_side m)
side_by_side_laid m = record {
  admitted_begins_at_level = λ l p a. told_yes (m.refusal p) l 0 a;
  refused_has_no_place = λ l p n. told_no (m.refusal p) l 0 n;
}
