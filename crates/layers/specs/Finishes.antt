-- Finishes over a kind: its classes once for each finish. Assumes nothing.
use Rattle.std.specs.Prelude.{◌≡◌, ℕ, ◌+◌, ◌-◌, ◌*◌, ◌/◌, ◌%◌, ◌<◌, min, Bool, false, cond, if◌then◌else◌, not, ◌&&◌, map, Some, None, Option, All, ◌==◌, nat_le, nat_lt}
use Rattle.refusals.specs.declared.MakeRefusal.{MakeRefusal}
use Rattle.refusals.specs.declared.MakeRefusal.TheVariants.{Finishes}
use Rattle.refusals.specs.declared.PieceRefusal.TheVariants.{Finish}
use Rattle.kinds.specs.declared.piece.Piece.{Piece}
use Rattle.kinds.specs.Kind.{Meaning, between}

-- why no F finishes are laid over a kind; None where they are
abbrev pub finishes_refusal : ℕ → Meaning → Option MakeRefusal
finishes_refusal F m = cond (not (between 1 4 F && nat_le (F * m.classes) 104)) (Some Finishes) None

-- the piece that is passed down
abbrev pub plain : Piece → Piece
plain p = record { number = p.number; first = p.first; second = p.second; finish = 0 }

-- F finishes over m, for an F with F × classes at most 104
module _ (F : ℕ) (m : Meaning) where
  -- the class below of the class c: the classes of one finish follow those of another
  abbrev pub below : ℕ → ℕ
  below c = (c - 1) % m.classes + 1

  -- the class exists
  abbrev pub has_class : ℕ → Bool
  has_class c = between 1 (F * m.classes) c

  -- the class of a piece with the finish f that has class c below, 0 staying 0
  abbrev pub raised : ℕ → ℕ → ℕ
  raised f c = cond (c == 0) 0 (f * m.classes + c)

  -- all that the layer tells
  abbrev pub finishes_by : Meaning
  finishes_by = record {
    code = m.code;
    refusal = λ p. cond (nat_lt p.finish F) (m.refusal (plain p)) (Some Finish);
    classes = F * m.classes;
    class = λ p. cond (nat_lt p.finish F) (raised p.finish (m.class (plain p))) 0;
    cost = λ c. cond (has_class c) (m.cost (below c)) 0;
    standing = λ c. cond (has_class c) (m.standing (below c)) 0;
    unit = m.unit;
    ceiling = m.ceiling;
    weight = λ p. cond (nat_lt p.finish F) (m.weight (plain p)) 0;
    load = λ p. cond (nat_lt p.finish F) (m.load (plain p)) 0;
    fits = λ c n l p. cond (has_class c && nat_lt p.finish F) (m.fits (below c) n l (plain p)) false;
    full = λ c n l. cond (has_class c) (m.full (below c) n l) false;
    Allowed = λ ps h. (f : ℕ) × (f < F) × All (λ p. p.finish ≡ f) ps × m.Allowed (map plain ps) h;
  }

-- as many finishes as have room in 104 classes: F, of any layer that is made
abbrev pub reckoned : ℕ → Meaning → ℕ
reckoned F m = min F (104 / m.classes)

-- the layer of F finishes
abbrev pub finishes : ℕ → Meaning → Meaning
finishes F m = finishes_by (reckoned F m) m

-- the piece that is passed down, where its finish is reckoned with
abbrev pub bare_piece : ℕ → Meaning → Piece → Option Piece
bare_piece F m p = if nat_lt p.finish (reckoned F m) then Some (plain p) else None

-- the class below, of a class that there is
abbrev pub class_below : ℕ → Meaning → ℕ → Option ℕ
class_below F m c = if has_class (reckoned F m) m c then Some (below (reckoned F m) m c) else None
