-- Bars of one capacity, in k harmonic classes. Assumes nothing.
use Rattle.std.specs.Prelude.{◌≡◌, ℕ, ◌+◌, ◌*◌, ◌/◌, ◌≤◌, min, false, cond, not, ◌&&◌, Some, None, sum_by, Option, All, ◌==◌, nat_le, nat_lt}
use Rattle.refusals.specs.declared.PieceRefusal.{PieceRefusal}
use Rattle.refusals.specs.declared.PieceRefusal.TheVariants.{Finish, First, Second}
use Rattle.refusals.specs.declared.MakeRefusal.{MakeRefusal}
use Rattle.refusals.specs.declared.MakeRefusal.TheVariants.{Capacity, ClassNumber}
use Rattle.kinds.specs.declared.piece.Piece.{Piece}
use Rattle.kinds.specs.Kind.{Meaning, told, between}
use Rattle.kinds.specs.Figures.{multiple, unit_factor, ceiling_factor}

-- why no bars of the capacity C and the class number k are made; None where they are
abbrev pub bars_refusal : ℕ → ℕ → Option MakeRefusal
bars_refusal C k = cond (not (between 1 1000000 C)) (Some Capacity) (cond (not (between 2 12 k)) (Some ClassNumber) None)

-- a length from 1 to C, and nothing else
abbrev pub bar_refusal : ℕ → Piece → Option PieceRefusal
bar_refusal C q = cond (not (q.finish == 0)) (Some Finish) (cond (not (between 1 C q.first)) (Some First) (cond (not (q.second == 0)) (Some Second) None))

-- how many pieces of this length a bar takes, and k where it takes more
abbrev pub bar_class : ℕ → ℕ → Piece → ℕ
bar_class C k q = told (bar_refusal C q) (min k (C / q.first)) 0

-- the capacity C, the class number k, and the figures L, u and p of k
module _ (C k L u p : ℕ) where
  -- all that such bars tell
  abbrev pub bars_by : Meaning
  bars_by = record {
    code = 1;
    refusal = bar_refusal C;
    classes = k;
    class = bar_class C k;
    cost = λ c. cond (between 1 k c) 1 0;
    standing = λ c. cond (between 1 k c && not (c == 1)) 1 0;
    unit = u * C;
    ceiling = p * C;
    weight = λ q. told (bar_refusal C q) (cond (nat_lt (bar_class C k q) k) (u * C / bar_class C k q) (k * L * q.first)) 0;
    load = λ q. told (bar_refusal C q) q.first 0;
    fits = λ c n l q. told (bar_refusal C q) (between 1 k c && cond (nat_lt c k) (nat_lt n c) (nat_le (l + q.first) C)) false;
    full = λ c n l. between 1 k c && (nat_lt c k && nat_le c n);
    Allowed = λ ps h. (h ≡ 1) × All (λ q. bar_refusal C q ≡ None) ps × (sum_by (λ q. q.first) ps ≤ C);
  }

-- bars of the capacity C in k classes
abbrev pub bars : ℕ → ℕ → Meaning
bars C k = bars_by C k (multiple k) (unit_factor k) (ceiling_factor k)
