-- What the packer's inner functions tell. Assumes nothing.
use Rattle.std.specs.Prelude.{◌≡◌, ℕ, ◌+◌, ◌-◌, ◌<◌, ◌≤◌, cond, Ok, slice_set}
use Rattle.kinds.specs.declared.piece.Piece.{Piece}
use Rattle.kinds.specs.Kind.{Meaning, Admitted}
use Rattle.ledger.specs.declared.Ledger.{Ledger}
use Rattle.ledger.specs.Rules.{nothing, taken, closes_after, placing, closings, put_answer, ledger_after}
use Rattle.packer.specs.declared.Admission.{Admission}
use Rattle.packer.specs.declared.Turn.{Turn}

-- the kind admits the piece, and tells so much of it
pub record AdmitsAs (m : Meaning) (p : Piece) (a : Admission) : Type 0 where
  pub admitted : Admitted m p
  pub class : a.class ≡ m.class p
  pub load : a.load ≡ m.load p
  pub weight : a.weight ≡ m.weight p

-- all that a put of an admitted piece brings
abbrev pub turn_of : Meaning → Ledger → Piece → Turn
turn_of m s p = record {
  placing = placing m s p;
  slot = cond (closes_after m s p) nothing (taken m s p);
  opened = (ledger_after m s p).opened;
  used = (ledger_after m s p).used;
  weight = (ledger_after m s p).weight;
}

-- the ledger with a turn entered
abbrev pub entered : Ledger → Turn → Ledger
entered s t = record {
  bank = record { slots = slice_set s.bank.slots (t.placing.class - 1) t.slot };
  accepted = s.accepted + 1;
  opened = t.opened;
  used = t.used;
  weight = t.weight;
}

-- with so many unwritten lines in the two lists, a put of the piece is accepted, and brings the turn
pub record Accepts (m : Meaning) (s : Ledger) (p : Piece) (places closes : ℕ) (t : Turn) : Type 0 where
  pub answer : put_answer m s p places closes ≡ Ok t.placing
  pub turn : t ≡ turn_of m s p
  pub admitted : Admitted m p
  pub few : s.accepted < 100000
  pub place_fits : 0 < places
  pub closings_fit : closings m s p ≤ closes
