-- An allowance over a lawful kind is lawful. Assumes nothing.
use Rattle.std.specs.Prelude.{◌≡◌, ℕ, false, List, map}
use Rattle.std.proofs.Common.{sym, ap, ◌∙◌, arith}
use Rattle.std.proofs.lemmas.List.{map_push, length-map}
use Rattle.kinds.specs.declared.piece.Piece.{Piece}
use Rattle.kinds.specs.Kind.{Meaning, Lawful, Admitted, Built, one_more, none_yet, full_with, fits_after, at_first, between}
use Rattle.kinds.specs.Told.{above, below}
use Rattle.layers.specs.Allowance.{widened, allowance}
use Rattle.layers.specs.Mapped.{all_unmap, sum_over_map}

module _ (t : ℕ) (m : Meaning) where
  full_down : (c : ℕ) (ps : List Piece) → full_with (allowance t m) c ps ≡ full_with m c (map (widened t) ps)
  full_down c ps = let n = length-map ps (widened t) in let l = sum_over_map m.load (widened t) ps in cc

  fits_down : (c : ℕ) (ps : List Piece) (p : Piece) → fits_after (allowance t m) c ps p ≡ fits_after m c (map (widened t) ps) (widened t p)
  fits_down c ps p = let n = length-map ps (widened t) in let l = sum_over_map m.load (widened t) ps in cc

  built_down : {c : ℕ} {ps : List Piece} → Built (allowance t m) c ps → Built m c (map (widened t) ps)
  built_down none_yet = none_yet
  built_down {c} (one_more {ps = ps} {p = p} b a e nf ft) =
      rw (map_push (widened t) ps p)
      (one_more (built_down b) a e (sym (full_down c ps) ∙ nf) (sym (fits_down c ps p) ∙ ft))

  out : (p : Piece) → between 1 1000000 p.first ≡ false → widened t p ≡ at_first p 0
  out p e = rw e

  pub allowance_lawful : Lawful m → Lawful (allowance t m)
  allowance_lawful law = record {
    some_class = law.some_class;
    few_classes = law.few_classes;
    admitted_has_class = λ p. law.admitted_has_class (widened t p);
    refused_tells_nothing = λ p h. law.refused_tells_nothing (widened t p) h;
    no_class_tells_nothing = λ c h. let n = law.no_class_tells_nothing c h in (n.0, n.1, n.2, λ a b p. n.3 a b (widened t p));
    first_zero_refused = λ p z h. law.first_zero_refused (widened t p) (ap (λ x. x.first) (out p (below 1 1000000 p.first (omega arith)))) h;
    first_over_refused_as_zero = λ p o. ap m.refusal (out p (above 1 1000000 p.first o));
    weight_range = λ p. law.weight_range (widened t p);
    load_range = λ p. law.load_range (widened t p);
    unit_some = law.unit_some;
    cost_range = law.cost_range;
    ceiling_range = law.ceiling_range;
    standing_none_or_cost = law.standing_none_or_cost;
    empty_takes = λ p. law.empty_takes (widened t p);
    empty_not_full = law.empty_not_full;
    built_allowed = λ c ps some b.
        let r = law.built_allowed c (map (widened t) ps) (omega (arith, length-map ps (widened t))) (built_down b) in
        (r.0, omega (arith, r.1, sum_over_map m.load (widened t) ps));
    full_weighs_enough = λ c ps b f. omega (arith, sum_over_map m.weight (widened t) ps, law.full_weighs_enough c _ (built_down b) (sym (full_down c ps) ∙ f));
    unfit_weighs_enough = λ c ps p b a e f. omega (arith, sum_over_map m.weight (widened t) ps, law.unfit_weighs_enough c _ (widened t p) (built_down b) a e (sym (fits_down c ps p) ∙ f));
    allowed_admitted = λ ps h low a. all_unmap (Admitted m) (widened t) ps (law.allowed_admitted (map (widened t) ps) h low a);
    allowed_weighs_at_most = λ ps h low a. omega (arith, sum_over_map m.weight (widened t) ps, law.allowed_weighs_at_most (map (widened t) ps) h low a);
    full_after_first = λ p. law.full_after_first (widened t p);
  }
