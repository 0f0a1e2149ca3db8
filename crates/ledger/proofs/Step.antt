-- One accepted put keeps the ledger sound. Assumes nothing.
use Rattle.std.proofs.Common.{◌≡◌, ℕ, ◌+◌, ◌-◌, ◌*◌, ◌<◌, ◌≤◌, Bool, true, false, cond, not, List, [], ◌∷◌, ◌++◌, length, set, sum_by, sym, refl, ap, ◌∙◌, subst, inl, inr, arith, All}
use Rattle.std.proofs.lemmas.List.{length-set, get_or-set_same, get_or-set_other, length_push, map_push}
use Rattle.std.proofs.lemmas.List.Elements.{All-push, All-weaker}
use Rattle.std.proofs.lemmas.List.Sums.{sum_by_push}
use Rattle.std.proofs.lemmas.Bool.{cases_eq, ne_eqb, true≢false}
use Rattle.kinds.specs.declared.piece.Piece.{Piece}
use Rattle.ledger.specs.declared.Slot.{Slot}
use Rattle.ledger.specs.declared.Ledger.{Ledger}
use Rattle.kinds.specs.Kind.{Meaning, Lawful, Admitted, Built, one_more, weights, full_with}
use Rattle.ledger.specs.Rules.{upto, open_in, stands, nothing}
use Rattle.ledger.specs.Season.{Placed, pieces_of, pieces_in, class_in}
use Rattle.ledger.proofs.Bounds.{class_range}
use Rattle.ledger.proofs.Uptos.{sum_change}
use Rattle.ledger.proofs.Groups.{push, Numbered, pieces_push_same, pieces_push_other, class_push_found, class_push_other}
use Rattle.ledger.proofs.Sound.{open_weight, open_cost_in, Tells, Open, Group, Sound, placed_in, Ready}

abbrev taken_by : Meaning → Piece → Slot → Slot
taken_by m p t = record {
  container = t.container;
  count = t.count + 1;
  level = t.level + m.load p;
  weight = t.weight + m.weight p;
}

abbrev after_by : Meaning → Ledger → Piece → Slot → ℕ → ℕ → Ledger
after_by m s p x top used = record {
  bank = record { slots = set s.bank.slots (m.class p - 1) x };
  accepted = s.accepted + 1;
  opened = top;
  used = used;
  weight = s.weight + m.weight p;
}

-- the ratio's step at the unit u: W and X are what the class's slot weighed and cost before, Y and Z what it does then
step_sum : (u U ΣW T X S ΣX C W ΣW' ΣX' w Y Z : ℕ) → U + ΣW + T + u * X ≤ S + u * ΣX + C + W → ΣW' + W ≡ ΣW + Y → ΣX' + X ≡ ΣX + Z → C + Y ≤ T + w + u * Z → U + ΣW' ≤ (S + w) + u * ΣX'
step_sum u U ΣW T X S ΣX C W ΣW' ΣX' w Y Z a b c d = omega (arith, ap (λ n. u * n) c)

module _ (m : Meaning) (law : Lawful m) (qs : List Placed) (s : Ledger) (sound : Sound m qs s) (p : Piece) (admitted : Admitted m p) (t : Slot) (top used : ℕ) (ready : Ready m qs s p t top used) where
  is_class : (1 ≤ m.class p) × (m.class p ≤ 104)
  is_class = class_range m law p admitted

  slot_same : (x : Slot) → open_in (after_by m s p x top used) (m.class p) ≡ x
  slot_same x = get_or-set_same s.bank.slots (m.class p - 1) x nothing (omega (arith, is_class, sound.bank))

  slot_other : (x : Slot) (d : ℕ) → 1 ≤ d → (d ≡ m.class p → ⊥) → open_in (after_by m s p x top used) d ≡ open_in s d
  slot_other x d low ne = get_or-set_other s.bank.slots (m.class p - 1) (d - 1) x nothing (λ e. ne (omega (arith, is_class)))

  -- the container that took the piece

  pieces_then : pieces_in t.container (push qs (placed_in m p t)) ≡ pieces_in t.container qs ++ (p ∷ [])
  pieces_then = pieces_push_same t.container qs (placed_in m p t) refl

  built_then : Built m (m.class p) (pieces_in t.container (push qs (placed_in m p t)))
  built_then = rw pieces_then (one_more ready.built admitted refl ready.not_full ready.fits)

  tells_then : Tells m (pieces_in t.container (push qs (placed_in m p t))) (taken_by m p t)
  tells_then =
      let ps : List Piece = pieces_in t.container qs in
      rw pieces_then
      (record {
        count = omega (arith, length_push ps p, ready.tells.count);
        level = omega (arith, sum_by_push m.load ps p, ready.tells.level);
        weight = omega (arith, sum_by_push m.weight ps p, ready.tells.weight);
      })

  some_then : 0 < length (pieces_in t.container (push qs (placed_in m p t)))
  some_then = omega (arith, tells_then.count)

  full_then : m.full (m.class p) (t.count + 1) (t.level + m.load p) ≡ full_with m (m.class p) (pieces_in t.container (push qs (placed_in m p t)))
  full_then = cc (tells_then.count, tells_then.level)

  -- each container

  group_then : (n : ℕ) → 1 ≤ n → n ≤ top → Group m (push qs (placed_in m p t)) n
  group_then n low high =
      elim (cases_eq n t.container) [
        | inl e ↦
            rw e
            (let cost : m.cost (m.class p) ≡ m.cost (class_in t.container (push qs (placed_in m p t))) = ap m.cost (sym ready.ours_then) in
            record {
              some = some_then;
              costs = omega (arith, cost, (law.cost_range (m.class p) (law.admitted_has_class p admitted)).0);
              allowed = subst (m.Allowed (pieces_in t.container (push qs (placed_in m p t)))) cost (law.built_allowed (m.class p) _ some_then built_then).0;
            })
        | inr ne ↦
            let old : Group m qs n = sound.groups n low (ready.others n high ne) in
            let ps : pieces_in n (push qs (placed_in m p t)) ≡ pieces_in n qs = pieces_push_other n qs (placed_in m p t) (λ e. ne (sym e)) in
            let cs : class_in n (push qs (placed_in m p t)) ≡ class_in n qs = class_push_other n qs (placed_in m p t) (λ e. ne (sym e)) in
            record { some = rw ps old.some; costs = rw cs old.costs; allowed = rw (ps, cs) old.allowed }
      ]

  -- an open container of another class

  open_other : (x : Slot) (d : ℕ) → 1 ≤ d → d ≤ 104 → (d ≡ m.class p → ⊥) → stands (open_in (after_by m s p x top used) d) ≡ true → Open m (push qs (placed_in m p t)) top d (open_in (after_by m s p x top used) d)
  open_other x d low high ne up =
      let same : open_in (after_by m s p x top used) d ≡ open_in s d = slot_other x d low ne in
      let o : Open m qs s.opened d (open_in s d) = sound.opens d low high (subst (λ y. stands y ≡ true) same up) in
      let n : ℕ = (open_in s d).container in
      let apart : t.container ≡ n → ⊥ = λ e. ne (sym o.ours ∙ ap (λ k. class_in k qs) (sym e) ∙ ready.ours (omega (arith, e, o.high))) in
      let ps : pieces_in n (push qs (placed_in m p t)) ≡ pieces_in n qs = pieces_push_other n qs (placed_in m p t) apart in
      let cs : class_in n (push qs (placed_in m p t)) ≡ class_in n qs = class_push_other n qs (placed_in m p t) apart in
      rw same
      (record {
        low = o.low;
        high = omega (arith, o.high, ready.grows);
        ours = cs ∙ o.ours;
        built = rw ps o.built;
        tells = rw ps o.tells;
        not_full = rw ps o.not_full;
        standing = o.standing;
      })

  classes_then : All (λ r. r.class ≡ class_in r.container (push qs (placed_in m p t))) (push qs (placed_in m p t))
  classes_then =
      All-push (λ r. r.class ≡ class_in r.container (push qs (placed_in m p t))) qs (placed_in m p t)
      (λ i d l. let w = sound.within i d l in sound.classes i d l ∙ sym (class_push_found _ qs (placed_in m p t) (sound.groups _ w.0 w.1).some))
      (sym ready.ours_then)

  -- the sums over the bank, at any slot x that class p now has
  module _ (x : Slot) where
    weights_then : sum_by (open_weight (after_by m s p x top used)) (upto 104) + open_weight s (m.class p) ≡ sum_by (open_weight s) (upto 104) + cond (stands x) x.weight 0
    weights_then =
        sum_change (open_weight s) (open_weight (after_by m s p x top used)) 104 (m.class p) is_class.0 is_class.1
        (λ d low high ne. ap (λ y. cond (stands y) y.weight 0) (slot_other x d low ne))
        ∙ ap (λ (y : Slot). sum_by (open_weight s) (upto 104) + cond (stands y) y.weight 0) (slot_same x)

    costs_then : sum_by (open_cost_in m (after_by m s p x top used)) (upto 104) + open_cost_in m s (m.class p) ≡ sum_by (open_cost_in m s) (upto 104) + cond (stands x) (m.cost (m.class p)) 0
    costs_then =
        sum_change (open_cost_in m s) (open_cost_in m (after_by m s p x top used)) 104 (m.class p) is_class.0 is_class.1
        (λ d low high ne. ap (λ y. cond (stands y) (m.cost d) 0) (slot_other x d low ne))
        ∙ ap (λ (y : Slot). sum_by (open_cost_in m s) (upto 104) + cond (stands y) (m.cost (m.class p)) 0) (slot_same x)

    -- what is left to show of x
    sound_then : (stands x ≡ true → Open m (push qs (placed_in m p t)) top (m.class p) x) → m.unit * m.cost (m.class p) + cond (stands x) x.weight 0 ≤ t.weight + m.weight p + m.unit * cond (stands x) (m.cost (m.class p)) 0 → Sound m (push qs (placed_in m p t)) (after_by m s p x top used)
    sound_then open-then heavy = record {
      bank = length-set s.bank.slots (m.class p - 1) x ∙ sound.bank;
      within = All-push (Numbered top) qs (placed_in m p t) (All-weaker (Numbered s.opened) (Numbered top) (λ r h. (h.0, omega (arith, h.1, ready.grows))) qs sound.within) (ready.low, ready.high);
      in_turn = ready.in_turn;
      classes = classes_then;
      weight = omega (arith, sound.weight, ap (weights m) (map_push (λ r. r.piece) qs (placed_in m p t)), sum_by_push m.weight (pieces_of qs) p);
      used = ready.sums;
      groups = group_then;
      opens = λ d low high up.
          elim (cases_eq d (m.class p)) [
            | inl e ↦ rw e
                (rw (slot_same x)
                (open-then (subst (λ y. stands y ≡ true) (ap (open_in (after_by m s p x top used)) e ∙ slot_same x) up)))
            | inr ne ↦ open_other x d low high ne up
          ];
      ratio = step_sum m.unit (m.unit * used) (sum_by (open_weight s) (upto 104)) t.weight (open_cost_in m s (m.class p)) s.weight (sum_by (open_cost_in m s) (upto 104)) (m.unit * m.cost (m.class p)) (open_weight s (m.class p)) _ _ (m.weight p) _ _ ready.ratio weights_then costs_then heavy;
    }

  taken_stands : stands (taken_by m p t) ≡ true
  taken_stands = ap not (ne_eqb (t.count + 1) 0 (λ e. omega arith))

  pub stepped : (f : Bool) → m.full (m.class p) (t.count + 1) (t.level + m.load p) ≡ f → Sound m (push qs (placed_in m p t)) (after_by m s p (cond f nothing (taken_by m p t)) top used)
  stepped true e =
      sound_then nothing (λ up. absurd (true≢false (sym up)))
      (omega (arith, tells_then.weight, law.full_weighs_enough (m.class p) _ built_then (sym full_then ∙ e)))
  stepped false e =
      sound_then (taken_by m p t)
      (λ up. record {
        low = ready.low;
        high = ready.high;
        ours = ready.ours_then;
        built = built_then;
        tells = tells_then;
        not_full = sym full_then ∙ e;
        standing = ready.standing e;
      })
      (rw taken_stands (omega arith))
