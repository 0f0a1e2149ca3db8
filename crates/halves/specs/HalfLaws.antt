-- Halves are lawful. Assumes nothing.
use Rattle.std.specs.Prelude.{◌≡◌, ℕ, ◌+◌, ◌*◌, ◌<◌, ◌≤◌, true, false, cond, ◌&&◌, leb, List, [], ◌∷◌, length, Some, None, sum_by, ◌==◌, nat_eq, nat_le, refl, All, Bool}
use Rattle.std.proofs.Common.{sym, ap, ◌∙◌, inr, arith}
use Rattle.std.proofs.lemmas.List.Elements.{All-nil, All-push, All-head, All-tail, All-weaker}
use Rattle.std.proofs.lemmas.List.Sums.{sum_by-cons, sum_by_push}
use Rattle.std.proofs.lemmas.Bool.{false_from_ne_true, cond-true, leb-true, leb-false, le-leb, eq-eqb, ne_eqb, and_parts, and_right, and_left}
use Rattle.std.proofs.lemmas.Bool.Decides.{nat_tests}
use Rattle.kinds.specs.declared.piece.Piece.{Piece}
use Rattle.refusals.specs.declared.PieceRefusal.TheVariants.{First}
use Rattle.kinds.specs.Kind.{Lawful, Admitted, ClassOf, Built, none_yet, one_more, level, weights, fits_after}
use Rattle.kinds.specs.Told.{in_between, above}
use Rattle.halves.specs.Halving.{sized, halves}

-- from 0 ≡ 1 anything follows
never : {A : Type 0} → ◌≡◌ {A = ℕ} 0 1 → A
never z = absurd (omega arith)

-- admission

is_sized : (p : Piece) → Admitted halves p → sized p ≡ true
is_sized p a = grind (arith, nat_tests)

is_admitted : (p : Piece) → sized p ≡ true → Admitted halves p
is_admitted p e = cond-true (sized p) None (Some First) e

not_sized : (p : Piece) → (Admitted halves p → ⊥) → sized p ≡ false
not_sized p refused = false_from_ne_true (sized p) (λ e. refused (is_admitted p e))

range : (p : Piece) → sized p ≡ true → (1 ≤ p.first) × (p.first ≤ 2)
range p e = in_between 1 2 p.first e

measure : (p : Piece) → sized p ≡ true → cond (sized p) p.first 0 ≡ p.first
measure p e = cond-true (sized p) p.first 0 e

class_one : (c : ℕ) → ClassOf halves c → (c == 1) ≡ true
class_one c k = eq-eqb c 1 (omega (arith, k))

no_one : (c : ℕ) → (ClassOf halves c → ⊥) → (c == 1) ≡ false
no_one c h = ne_eqb c 1 (λ e. h (omega arith))

-- what sized pieces weigh, and load

weighs : (ps : List Piece) → All (λ p. sized p ≡ true) ps → weights halves ps ≡ sum_by (λ p. p.first) ps
weighs [] h = refl
weighs (p ∷ ps) h = omega (arith, sum_by-cons halves.weight p ps, sum_by-cons (λ p. p.first) p ps, weighs ps (All-tail (λ p. sized p ≡ true) p ps h), measure p (All-head (λ p. sized p ≡ true) p ps h))

-- what a container so built holds
record Held (c : ℕ) (ps : List Piece) : Type 0 where
  all_sized : All (λ p. sized p ≡ true) ps
  at_most : level halves ps ≤ 2
  one : 0 < length ps → (c == 1) ≡ true

held : {c : ℕ} {ps : List Piece} → Built halves c ps → Held c ps
held none_yet = record { all_sized = All-nil (λ p. sized p ≡ true); at_most = omega arith; one = λ s. absurd (omega arith) }
held {c} (one_more {ps = ps} {p = p} b a k n f) =
    let s : sized p ≡ true = is_sized p a in
    let fit = and_parts (c == 1 && sized p) (nat_le (level halves ps + p.first) 2) f in
    record {
      all_sized = All-push (λ p. sized p ≡ true) ps p (held b).all_sized s;
      at_most = omega (arith, sum_by_push halves.load ps p, measure p s, leb-true (level halves ps + p.first) 2 fit.1);
      one = λ h. (and_parts (c == 1) (sized p) fit.0).0;
    }

cost_most : (b : Bool) → cond b 1 0 ≤ 1
cost_most true = omega arith
cost_most false = omega arith

heavy : (c : ℕ) (ps : List Piece) → 1 ≤ level halves ps → 1 * cond (c == 1) 1 0 ≤ weights halves ps
heavy c ps l = omega (arith, cost_most (c == 1), l)

unfit : (c : ℕ) (ps : List Piece) (p : Piece) → Admitted halves p → halves.class p ≡ c → fits_after halves c ps p ≡ false → 1 ≤ level halves ps
unfit c ps p a k f =
    let s : sized p ≡ true = is_sized p a in
    let is : nat_eq c 1 ≡ true = eq-eqb c 1 (sym k ∙ ap (λ b. cond b 1 0) s) in
    let over : leb (level halves ps + p.first) 2 ≡ false = rw (is, s) at f in
    omega (arith, leb-false (level halves ps + p.first) 2 over, range p s)

pub halves_lawful : Lawful halves
halves_lawful = record {
  some_class = omega arith;
  few_classes = omega arith;
  admitted_has_class = λ p a. rw (is_sized p a) (omega arith);
  refused_tells_nothing = λ p h. let e = not_sized p h in (rw e, rw e, rw e, λ c n l. and_left _ _ (and_right (c == 1) (sized p) e));
  no_class_tells_nothing = λ c h. let e = no_one c h in (rw e, rw e, (λ n l. and_left _ _ e), λ n l p. and_left _ _ (and_left _ _ e));
  first_zero_refused = λ p z a. omega (arith, range p (is_sized p a));
  first_over_refused_as_zero = λ p h. ap (λ b. cond b None (Some First)) (above 1 2 p.first (omega arith));
  weight_range = λ p a. rw (measure p (is_sized p a)) (omega (arith, range p (is_sized p a)));
  load_range = λ p a. rw (measure p (is_sized p a)) (omega (arith, range p (is_sized p a)));
  unit_some = omega arith;
  cost_range = λ c k. rw (class_one c k) (omega arith);
  ceiling_range = omega arith;
  standing_none_or_cost = λ c k. inr refl;
  empty_takes = λ p a. rw (is_sized p a) (le-leb (0 + p.first) 2 (omega (arith, range p (is_sized p a))));
  empty_not_full = λ c k. and_right (c == 1) _ refl;
  built_allowed = λ c ps some b.
      let h = held b in
      ((h.all_sized, rw (h.one some) (omega (arith, h.at_most, weighs ps h.all_sized))), omega (arith, h.at_most));
  full_weighs_enough = λ c ps b f. heavy c ps (omega (arith, leb-true 2 (level halves ps) (and_parts (c == 1) _ f).1));
  unfit_weighs_enough = λ c ps p b a k f. heavy c ps (unfit c ps p a k f);
  allowed_admitted = λ ps h low a. All-weaker (λ p. sized p ≡ true) (Admitted halves) is_admitted ps a.0;
  allowed_weighs_at_most = λ ps h low a. omega (arith, a.1, weighs ps a.0);
  full_after_first = λ p a z. never (sym z ∙ rw (is_sized p a) refl);
}
