-- What a kind of container tells, and when it is lawful. Assumes nothing.
use Rattle.std.specs.Prelude.{◌≡◌, ℕ, ◌*◌, ◌^◌, ◌<◌, ◌≤◌, Bool, true, false, ◌&&◌, ◌⊎◌, List, [], ◌∷◌, ◌++◌, length, Some, None, sum_by, Option, All, nat_le}
use Rattle.refusals.specs.declared.PieceRefusal.{PieceRefusal}
use Rattle.kinds.specs.declared.piece.Piece.{Piece}

-- All that a kind tells, as one fixed value.
pub record Meaning : Type 1 where
  -- the kind code
  pub code : ℕ
  -- why a piece is refused; None where it is admitted
  pub refusal : Piece → Option PieceRefusal
  -- the number of classes, and a piece's class
  pub classes : ℕ
  pub class : Piece → ℕ
  -- by class: what a container costs, and what one left open costs
  pub cost : ℕ → ℕ
  pub standing : ℕ → ℕ
  -- what a container of cost 1 weighs at least once it closes, and at most in any plan
  pub unit : ℕ
  pub ceiling : ℕ
  pub weight : Piece → ℕ
  pub load : Piece → ℕ
  -- class, count, level, piece: the piece fits a container that holds so much
  pub fits : ℕ → ℕ → ℕ → Piece → Bool
  -- class, count, level: a container that holds so much is full
  pub full : ℕ → ℕ → ℕ → Bool
  -- the pieces are an allowed container of that cost
  pub Allowed : List Piece → ℕ → Type 0

-- the kind does not refuse the piece
abbrev pub Admitted : Meaning → Piece → Type 0
Admitted m p = m.refusal p ≡ None

-- classes run from 1
abbrev pub ClassOf : Meaning → ℕ → Type 0
ClassOf m c = (1 ≤ c) × (c ≤ m.classes)

-- x of an admitted piece, and `nothing` (0 or no) of a refused one
abbrev pub told : {A : Type 0} → Option PieceRefusal → A → A → A
told None x nothing = x
told (Some refusal) x nothing = nothing

-- n is from low to high
abbrev pub between : ℕ → ℕ → ℕ → Bool
between low high n = nat_le low n && nat_le n high

-- the level of a container is the sum of its loads
abbrev pub level : Meaning → List Piece → ℕ
level m ps = sum_by m.load ps

-- what pieces weigh together
abbrev pub weights : Meaning → List Piece → ℕ
weights m ps = sum_by m.weight ps

-- a piece fits a container that holds these pieces
abbrev pub fits_after : Meaning → ℕ → List Piece → Piece → Bool
fits_after m c ps p = m.fits c (length ps) (level m ps) p

-- a container that holds these pieces is full
abbrev pub full_with : Meaning → ℕ → List Piece → Bool
full_with m c ps = m.full c (length ps) (level m ps)

-- Pieces of the class c put in turn, each fitting a container that is not full.
pub data Built (m : Meaning) (c : ℕ) : List Piece → Type 0 where
  none_yet : Built m c []
  one_more : {ps : List Piece} {p : Piece} → Built m c ps → Admitted m p → m.class p ≡ c → full_with m c ps ≡ false → fits_after m c ps p ≡ true → Built m c (ps ++ (p ∷ []))

-- the piece with another first measure
abbrev pub at_first : Piece → ℕ → Piece
at_first p a = record { number = p.number; first = a; second = p.second; finish = p.finish }

-- The laws that every kind owes.
pub record Lawful (m : Meaning) : Type 0 where
  -- classes and admission
  pub some_class : 1 ≤ m.classes
  pub few_classes : m.classes ≤ 104
  pub admitted_has_class : (p : Piece) → Admitted m p → ClassOf m (m.class p)
  pub refused_tells_nothing : (p : Piece) → (Admitted m p → ⊥) → (m.class p ≡ 0) × (m.weight p ≡ 0) × (m.load p ≡ 0) × ((c n l : ℕ) → m.fits c n l p ≡ false)
  pub no_class_tells_nothing : (c : ℕ) → (ClassOf m c → ⊥) → (m.cost c ≡ 0) × (m.standing c ≡ 0) × ((n l : ℕ) → m.full c n l ≡ false) × ((n l : ℕ) (p : Piece) → m.fits c n l p ≡ false)
  pub first_zero_refused : (p : Piece) → p.first ≡ 0 → Admitted m p → ⊥
  pub first_over_refused_as_zero : (p : Piece) → 1000000 < p.first → m.refusal p ≡ m.refusal (at_first p 0)
  -- ranges
  pub weight_range : (p : Piece) → Admitted m p → (1 ≤ m.weight p) × (m.weight p ≤ 2 ^ 44)
  pub load_range : (p : Piece) → Admitted m p → (1 ≤ m.load p) × (m.load p ≤ 1000000)
  pub unit_some : 1 ≤ m.unit
  pub cost_range : (c : ℕ) → ClassOf m c → (1 ≤ m.cost c) × (m.unit * m.cost c ≤ 2 ^ 44)
  pub ceiling_range : (1 ≤ m.ceiling) × (m.ceiling ≤ 2 ^ 48)
  pub standing_none_or_cost : (c : ℕ) → ClassOf m c → (m.standing c ≡ 0) ⊎ (m.standing c ≡ m.cost c)
  -- an empty container
  pub empty_takes : (p : Piece) → Admitted m p → m.fits (m.class p) 0 0 p ≡ true
  pub empty_not_full : (c : ℕ) → ClassOf m c → m.full c 0 0 ≡ false
  -- what is put in turn may stay so
  pub built_allowed : (c : ℕ) (ps : List Piece) → 0 < length ps → Built m c ps → m.Allowed ps (m.cost c) × (level m ps ≤ 1000000)
  -- a container that closes weighs at least unit × cost
  pub full_weighs_enough : (c : ℕ) (ps : List Piece) → Built m c ps → full_with m c ps ≡ true → m.unit * m.cost c ≤ weights m ps
  pub unfit_weighs_enough : (c : ℕ) (ps : List Piece) (p : Piece) → Built m c ps → Admitted m p → m.class p ≡ c → fits_after m c ps p ≡ false → m.unit * m.cost c ≤ weights m ps
  -- an allowed container weighs at most ceiling × cost
  pub allowed_admitted : (ps : List Piece) (h : ℕ) → 1 ≤ h → m.Allowed ps h → All (Admitted m) ps
  pub allowed_weighs_at_most : (ps : List Piece) (h : ℕ) → 1 ≤ h → m.Allowed ps h → weights m ps ≤ m.ceiling * h
  -- a class without standing cost leaves nothing open
  pub full_after_first : (p : Piece) → Admitted m p → m.standing (m.class p) ≡ 0 → full_with m (m.class p) (p ∷ []) ≡ true
