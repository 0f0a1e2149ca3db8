-- Where the pieces of a season lie in their containers, by the calls and their answers. Assumes nothing.
use Rattle.std.specs.Prelude.{◌≡◌, ℕ, ◌+◌, ◌≤◌, ◌⊎◌, List, [], ◌∷◌, ◌++◌, map, Some, None, Ok, Err, Option, Result, flat_map, All, AllPairs}
use Rattle.kinds.specs.declared.piece.Piece.{Piece}
use Rattle.refusals.specs.declared.PutRefusal.{PutRefusal}
use Rattle.kinds.specs.Kind.{Meaning, level}
use Rattle.ledger.specs.declared.Placing.{Placing}
use Rattle.ledger.specs.declared.Ledger.{Ledger}
use Rattle.ledger.specs.Rules.{Call, a_put, a_report, Ran, taking}
use Rattle.ledger.specs.Season.{placed, pieces_in}

-- The place that a put of the piece p tells: the level of the container that takes it, before it does.
abbrev pub place_in : Meaning → Ledger → Piece → ℕ
place_in m s p = (taking m s p).level

-- A season in which some puts told places

-- a call with its answer, and the place that it told, if it told one
pub record Noted : Type 0 where
  pub call : Call
  pub place : Option ℕ

-- a call that tells no place
abbrev pub silent : Call → Noted
silent c = record { call = c; place = None }

-- the place x, of a put that was accepted
abbrev pub if_accepted : ℕ → Result Placing PutRefusal → Option ℕ
if_accepted x (Ok a) = Some x
if_accepted x (Err r) = None

-- a put of the piece p that tells the place x where it is accepted, and none where it is refused
abbrev pub telling : ℕ → Piece → Result Placing PutRefusal → Noted
telling x p a = record { call = a_put p a; place = if_accepted x a }

-- the call without its place
abbrev pub call_of : Noted → Call
call_of c = c.call

-- the calls alone
abbrev pub calls : List Noted → List Call
calls n = map call_of n

-- the level of container k after the calls h: the loads of the pieces answered with that number
abbrev pub level_in : Meaning → ℕ → List Call → ℕ
level_in m k h = level m (pieces_in k (placed h))

-- Each place told is the level that the piece's container had before the piece went in.
pub data AtLevels (m : Meaning) : List Noted → Type 0 where
  none_told : AtLevels m []
  then_silent : {n : List Noted} → AtLevels m n → (c : Call) → AtLevels m (n ++ (silent c ∷ []))
  then_told : {n : List Noted} → AtLevels m n → (p : Piece) (a : Placing) → AtLevels m (n ++ (telling (level_in m a.container (calls n)) p (Ok a) ∷ []))

-- The calls n, by either put, made on a new packer over m, were answered so, told these places, and left s.
abbrev pub RanLaid : Meaning → List Noted → Ledger → Type 0
RanLaid m n s = Ran m (calls n) s × AtLevels m n

-- What the pieces cover

-- a stretch of a container, `to` being the first place behind it
pub record Stretch : Type 0 where
  pub container : ℕ
  pub from : ℕ
  pub to : ℕ

-- from its place to its place + its load, of an accepted piece whose put told a place
abbrev pub covered : Meaning → Call → Option ℕ → List Stretch
covered m (a_put p (Ok a)) (Some x) = record { container = a.container; from = x; to = x + m.load p } ∷ []
covered m (a_put p (Ok a)) None = []
covered m (a_put p (Err r)) x = []
covered m (a_report r) x = []

-- the stretch of one call, if it has one
abbrev pub stretch_of : Meaning → Noted → List Stretch
stretch_of m c = covered m c.call c.place

-- all stretches of a season
abbrev pub stretches : Meaning → List Noted → List Stretch
stretches m n = flat_map (stretch_of m) n

-- two stretches of one container: one ends before the other begins
abbrev pub Apart : Stretch → Stretch → Type 0
Apart a b = a.container ≡ b.container → (a.to ≤ b.from) ⊎ (b.to ≤ a.from)

-- each two of a list
abbrev pub AllApart : List Stretch → Type 0
AllApart ts = AllPairs Apart ts

-- What a season in which some puts told places owes.
pub record LaidSeason (m : Meaning) (n : List Noted) : Type 0 where
  -- pieces of one container do not overlap
  pub no_overlap : AllApart (stretches m n)
  -- none reaches past the level of its container
  pub within_level : All (λ t. t.to ≤ level_in m t.container (calls n)) (stretches m n)
