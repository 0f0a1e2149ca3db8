-- What holds of a ledger after the pieces qs were placed. Assumes nothing.
use Rattle.std.proofs.Common.{◌≡◌, ℕ, ◌+◌, ◌*◌, ◌<◌, ◌≤◌, true, false, cond, List, length, sum_by, All}
use Rattle.kinds.specs.declared.piece.Piece.{Piece}
use Rattle.ledger.specs.declared.Slot.{Slot}
use Rattle.ledger.specs.declared.Ledger.{Ledger}
use Rattle.kinds.specs.Kind.{Meaning, Built, level, weights, full_with, fits_after}
use Rattle.ledger.specs.Rules.{upto, open_in, stands}
use Rattle.ledger.specs.Season.{Placed, pieces_of, pieces_in, class_in, numbers}
use Rattle.ledger.proofs.Groups.{push, Numbered}

-- what the open containers weigh and cost, by class
abbrev pub open_weight : Ledger → ℕ → ℕ
open_weight s c = cond (stands (open_in s c)) (open_in s c).weight 0

abbrev pub open_cost_in : Meaning → Ledger → ℕ → ℕ
open_cost_in m s c = cond (stands (open_in s c)) (m.cost c) 0

-- the slot t tells of the pieces ps
pub record Tells (m : Meaning) (ps : List Piece) (t : Slot) : Type 0 where
  pub count : t.count ≡ length ps
  pub level : t.level ≡ level m ps
  pub weight : t.weight ≡ weights m ps

-- a container that stands open in class c
pub record Open (m : Meaning) (qs : List Placed) (top c : ℕ) (t : Slot) : Type 0 where
  pub low : 1 ≤ t.container
  pub high : t.container ≤ top
  pub ours : class_in t.container qs ≡ c
  pub built : Built m c (pieces_in t.container qs)
  pub tells : Tells m (pieces_in t.container qs) t
  pub not_full : full_with m c (pieces_in t.container qs) ≡ false
  pub standing : m.standing c ≡ m.cost c

-- container n as the answers show it
pub record Group (m : Meaning) (qs : List Placed) (n : ℕ) : Type 0 where
  pub some : 0 < length (pieces_in n qs)
  pub costs : 1 ≤ m.cost (class_in n qs)
  pub allowed : m.Allowed (pieces_in n qs) (m.cost (class_in n qs))

pub record Sound (m : Meaning) (qs : List Placed) (s : Ledger) : Type 0 where
  pub bank : length s.bank.slots ≡ 104
  pub within : All (Numbered s.opened) qs
  pub in_turn : numbers qs ≡ upto s.opened
  pub classes : All (λ q. q.class ≡ class_in q.container qs) qs
  pub weight : s.weight ≡ weights m (pieces_of qs)
  pub used : sum_by (λ n. m.cost (class_in n qs)) (upto s.opened) ≡ s.used
  pub groups : (n : ℕ) → 1 ≤ n → n ≤ s.opened → Group m qs n
  pub opens : (c : ℕ) → 1 ≤ c → c ≤ 104 → stands (open_in s c) ≡ true → Open m qs s.opened c (open_in s c)
  pub ratio : m.unit * s.used + sum_by (open_weight s) (upto 104) ≤ s.weight + m.unit * sum_by (open_cost_in m s) (upto 104)

abbrev pub placed_in : Meaning → Piece → Slot → Placed
placed_in m p t = record { piece = p; container = t.container; class = m.class p }

-- the container t is ready to take p: it stands, or was opened just now; then top and used count it already
pub record Ready (m : Meaning) (qs : List Placed) (s : Ledger) (p : Piece) (t : Slot) (top used : ℕ) : Type 0 where
  pub low : 1 ≤ t.container
  pub high : t.container ≤ top
  pub grows : s.opened ≤ top
  pub in_turn : numbers (push qs (placed_in m p t)) ≡ upto top
  pub others : (n : ℕ) → n ≤ top → (n ≡ t.container → ⊥) → n ≤ s.opened
  pub ours : t.container ≤ s.opened → class_in t.container qs ≡ m.class p
  pub ours_then : class_in t.container (push qs (placed_in m p t)) ≡ m.class p
  pub built : Built m (m.class p) (pieces_in t.container qs)
  pub tells : Tells m (pieces_in t.container qs) t
  pub not_full : full_with m (m.class p) (pieces_in t.container qs) ≡ false
  pub fits : fits_after m (m.class p) (pieces_in t.container qs) p ≡ true
  pub standing : m.full (m.class p) (t.count + 1) (t.level + m.load p) ≡ false → m.standing (m.class p) ≡ m.cost (m.class p)
  pub sums : sum_by (λ n. m.cost (class_in n (push qs (placed_in m p t)))) (upto top) ≡ used
  pub ratio : m.unit * used + sum_by (open_weight s) (upto 104) + t.weight + m.unit * open_cost_in m s (m.class p) ≤ s.weight + m.unit * sum_by (open_cost_in m s) (upto 104) + m.unit * m.cost (m.class p) + open_weight s (m.class p)
