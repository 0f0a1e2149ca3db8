-- Totes: bars that hold at most K pieces. Assumes nothing.
use Rattle.std.specs.Prelude.{ℕ, ◌+◌, ◌*◌, ◌/◌, ◌≤◌, false, cond, not, ◌&&◌, length, Some, None, Option, nat_le, nat_lt}
use Rattle.refusals.specs.declared.MakeRefusal.{MakeRefusal}
use Rattle.refusals.specs.declared.MakeRefusal.TheVariants.{Capacity, ClassNumber, PieceLimit}
use Rattle.kinds.specs.Kind.{Meaning, told, between}
use Rattle.kinds.specs.Figures.{multiple, unit_factor, ceiling_factor}
use Rattle.kinds.specs.Bars.{bar_refusal, bar_class, bars_by}

-- why no totes are made; None where they are
abbrev pub totes_refusal : ℕ → ℕ → ℕ → Option MakeRefusal
totes_refusal C k K = cond (not (between 1 1000000 C)) (Some Capacity) (cond (not (between 2 12 k)) (Some ClassNumber) (cond (not (between k 50 K)) (Some PieceLimit) None))

-- the measures and figures of a bar, and the piece limit K
module _ (C k L u p K : ℕ) where
  -- all that such totes tell
  abbrev pub totes_by : Meaning
  totes_by = record {
    code = 2;
    refusal = bar_refusal C;
    classes = k;
    class = bar_class C k;
    cost = (bars_by C k L u p).cost;
    standing = (bars_by C k L u p).standing;
    unit = u * C * K;
    ceiling = (p + u) * C * K;
    weight = λ q. told (bar_refusal C q) (cond (nat_lt (bar_class C k q) k) (u * C * K / bar_class C k q) (k * L * q.first * K + u * C)) 0;
    load = (bars_by C k L u p).load;
    fits = λ c n l q. told (bar_refusal C q) (between 1 k c && cond (nat_lt c k) (nat_lt n c) (nat_le (l + q.first) C && nat_lt n K)) false;
    full = λ c n l. between 1 k c && nat_le (cond (nat_lt c k) c K) n;
    Allowed = λ ps h. (bars_by C k L u p).Allowed ps h × (length ps ≤ K);
  }

-- totes of the capacity C in k classes, at most K pieces each
abbrev pub totes : ℕ → ℕ → ℕ → Meaning
totes C k K = totes_by C k (multiple k) (unit_factor k) (ceiling_factor k) K
