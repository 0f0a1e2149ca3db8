-- Every season over a lawful kind keeps its promise. Assumes nothing.
use Rattle.std.proofs.Common.{◌≡◌, ℕ, suc, ◌+◌, ◌-◌, ◌*◌, ◌<◌, ◌≤◌, Bool, true, false, cond, ◌&&◌, ◌||◌, eqb, ltb, leb, ◌⊎◌, List, [], ◌∷◌, ◌++◌, Some, None, Ok, Err, sum_by, Option, Result, sym, refl, ap, ◌∙◌, subst, inl, inr, mul-le-mul_left, mul-add, add-one, arith, flat_map, All, IsPermutation}
use Rattle.std.proofs.lemmas.List.{get_or-replicate, length_push}
use Rattle.std.proofs.lemmas.List.Elements.{All-nil, All-head, All-tail, All-weaker, All-map}
use Rattle.std.proofs.lemmas.List.Folds.{fold-map, flat_map-map}
use Rattle.std.proofs.lemmas.List.Sums.{sum_by_push, sum_by-append, sum_by-cons}
use Rattle.std.proofs.lemmas.List.Sorted.{sum_by-IsPermutation}
use Rattle.std.proofs.lemmas.Bool.{cases_Bool, leb-false, le-leb, true≢false, and_parts, and_right}
use Rattle.kinds.specs.declared.piece.Piece.{Piece}
use Rattle.refusals.specs.declared.PieceRefusal.{PieceRefusal}
use Rattle.refusals.specs.declared.PutRefusal.{PutRefusal}
use Rattle.refusals.specs.declared.PutRefusal.TheVariants.{NoNumber, NotAdmitted, SeasonFull, ListFull}
use Rattle.ledger.specs.declared.Placing.{Placing}
use Rattle.ledger.specs.declared.Slot.{Slot}
use Rattle.ledger.specs.declared.Ledger.{Ledger}
use Rattle.kinds.specs.Kind.{Meaning, Lawful, Admitted, one_more, none_yet, weights}
use Rattle.ledger.specs.Rules.{upto, floor_of, open_in, stands, nothing, new_ledger, found, fits_found, goes_on, taking, placing, closings, closes_after, kind_answer, put_answer, ledger_after, ledger_by, report, Call, a_put, a_report, Ran, made, then_put, then_report}
use Rattle.ledger.specs.Season.{Container, AllowedContainer, AllowedPacking, cost_of, standing_cost, Placed, placed, pieces_of, pieces_in, class_in, numbers, container_in, grouped, Season}
use Rattle.ledger.specs.Season.{CapIdle}
use Rattle.ledger.proofs.Floors.{floor_covers, floor_least}
use Rattle.ledger.proofs.Bounds.{class_range}
use Rattle.ledger.proofs.Uptos.{all_upto, sum_same, sum_le, sum_past}
use Rattle.ledger.proofs.Groups.{push, Elsewhere, Numbered, placed_then, placed_same, class_push_found, class_push_new, pieces_none, numbers_push_new, numbers_push_found, regrouped}
use Rattle.ledger.proofs.Sound.{open_weight, open_cost_in, Open, Group, Sound, placed_in, Ready}
use Rattle.ledger.proofs.Step.{stepped}

-- A container that takes a piece is ready for it

fresh_sum : (U Uu C ΣW S ΣX X W : ℕ) → U ≡ Uu + C → Uu + ΣW ≤ S + ΣX → X ≤ W → U + ΣW + 0 + X ≤ S + ΣX + C + W
fresh_sum U Uu C ΣW S ΣX X W e h l = omega arith

going_sum : (U ΣW T S ΣX C : ℕ) → U + ΣW ≤ S + ΣX → U + ΣW + T + C ≤ S + ΣX + C + T
going_sum U ΣW T S ΣX C h = omega arith

last_sum : (U ΣW S ΣX F T : ℕ) → U + ΣW ≤ S + ΣX → S ≤ F → ΣX ≤ T → U ≤ F + T
last_sum U ΣW S ΣX F T h k l = omega arith

abbrev fresh : Ledger → Slot
fresh s = record { container = s.opened + 1; count = 0; level = 0; weight = 0 }

module _ (m : Meaning) (law : Lawful m) (qs : List Placed) (s : Ledger) (sound : Sound m qs s) (p : Piece) (admitted : Admitted m p) where
  is_class : (1 ≤ m.class p) × (m.class p ≤ 104)
  is_class = class_range m law p admitted

  -- it stands open, and the piece fits
  going : stands (found m s p) ≡ true → fits_found m s p ≡ true → Ready m qs s p (found m s p) s.opened s.used
  going up fit =
      let o : Open m qs s.opened (m.class p) (found m s p) = sound.opens (m.class p) is_class.0 is_class.1 up in
      let n : ℕ = (found m s p).container in
      let g : Group m qs n = sound.groups n o.low o.high in
      record {
        low = o.low;
        high = o.high;
        grows = omega arith;
        in_turn = numbers_push_found qs _ g.some ∙ sound.in_turn;
        others = λ k h ne. h;
        ours = λ h. o.ours;
        ours_then = class_push_found n qs _ g.some ∙ o.ours;
        built = o.built;
        tells = o.tells;
        not_full = o.not_full;
        fits = let f = (and_parts (leb ((found m s p).level + m.load p) 1000000) (m.fits (m.class p) (found m s p).count (found m s p).level p) fit).1 in cc (o.tells.count, o.tells.level, f);
        standing = λ h. o.standing;
        sums = sum_same _ _ s.opened (λ k a b. ap m.cost (class_push_found k qs _ (sound.groups k a b).some)) ∙ sound.used;
        ratio = rw up (going_sum _ _ (found m s p).weight _ _ (m.unit * m.cost (m.class p)) sound.ratio);
      }

  not_yet : All (Elsewhere (s.opened + 1)) qs
  not_yet = All-weaker (Numbered s.opened) (Elsewhere (s.opened + 1)) (λ q h e. omega (arith, h.1, e)) qs sound.within

  pub none_in : pieces_in (s.opened + 1) qs ≡ []
  none_in = pieces_none (s.opened + 1) qs not_yet

  class_then : class_in (s.opened + 1) (push qs (placed_in m p (fresh s))) ≡ m.class p
  class_then = class_push_new (s.opened + 1) qs (placed_in m p (fresh s)) not_yet refl

  one_full : m.standing (m.class p) ≡ 0 → m.full (m.class p) 1 (0 + m.load p) ≡ true
  one_full h = law.full_after_first p admitted h

  -- the rules' cap never bites: what fits by the kind's word has a level of at most 1,000,000
  cap_idle : stands (found m s p) ≡ true → fits_found m s p ≡ m.fits (m.class p) (found m s p).count (found m s p).level p
  cap_idle up =
      elim (cases_Bool (m.fits (m.class p) (found m s p).count (found m s p).level p)) [
        | inl fit ↦
            let o : Open m qs s.opened (m.class p) (found m s p) = sound.opens (m.class p) is_class.0 is_class.1 up in
            let ps : List Piece = pieces_in (found m s p).container qs in
            let k = law.built_allowed (m.class p) (ps ++ (p ∷ [])) (omega (arith, length_push ps p)) (one_more o.built admitted refl o.not_full (cc (o.tells.count, o.tells.level, fit))) in
            let h : (found m s p).level + m.load p ≤ 1000000 = omega (arith, k.1, sum_by_push m.load ps p, o.tells.level) in
            rw (le-leb _ _ h) refl
        | inr unfit ↦ rw unfit (and_right (leb ((found m s p).level + m.load p) 1000000) false refl)
      ]

  -- what stood open, if anything, weighs enough to be closed
  heavy : goes_on m s p ≡ false → m.unit * open_cost_in m s (m.class p) ≤ open_weight s (m.class p)
  heavy off =
      elim (cases_Bool (stands (found m s p))) [
        | inl up ↦
            let o : Open m qs s.opened (m.class p) (found m s p) = sound.opens (m.class p) is_class.0 is_class.1 up in
            let unfit : m.fits (m.class p) (found m s p).count (found m s p).level p ≡ false = sym (cap_idle up) ∙ subst (λ b. (b && fits_found m s p) ≡ false) up off in
            rw up (omega (arith, o.tells.weight, law.unfit_weighs_enough (m.class p) _ p o.built admitted refl (cc (o.tells.count, o.tells.level, unfit))))
        | inr down ↦ rw down (omega arith)
      ]

  in_turn_then : numbers (push qs (placed_in m p (fresh s))) ≡ upto (s.opened + 1)
  in_turn_then =
      numbers_push_new qs (placed_in m p (fresh s)) not_yet
      ∙ ap (λ l. l ++ ((s.opened + 1) ∷ [])) sound.in_turn
      ∙ ap (λ n. upto s.opened ++ (n ∷ [])) (add-one s.opened)
      ∙ ap upto (sym (add-one s.opened))

  used_then : sum_by (λ n. m.cost (class_in n (push qs (placed_in m p (fresh s))))) (upto (s.opened + 1)) ≡ s.used + m.cost (m.class p)
  used_then =
      let F : ℕ → ℕ = λ n. m.cost (class_in n (push qs (placed_in m p (fresh s)))) in
      let old : sum_by F (upto s.opened) ≡ s.used = sum_same _ _ s.opened (λ k a b. ap m.cost (class_push_found k qs _ (sound.groups k a b).some)) ∙ sound.used in
      let last : F (suc s.opened) ≡ m.cost (m.class p) = ap F (sym (add-one s.opened)) ∙ ap m.cost class_then in
      ap (λ k. sum_by F (upto k)) (add-one s.opened) ∙ sum_by_push F (upto s.opened) (suc s.opened) ∙ cc (old, last)

  opening : goes_on m s p ≡ false → Ready m qs s p (fresh s) (s.opened + 1) (s.used + m.cost (m.class p))
  opening off = record {
    low = omega arith;
    high = omega arith;
    grows = omega arith;
    in_turn = in_turn_then;
    others = λ k h ne. omega arith;
    ours = λ h. absurd (omega arith);
    ours_then = class_then;
    built = rw none_in none_yet;
    tells = rw none_in (record { count = refl; level = refl; weight = refl });
    not_full = rw none_in (law.empty_not_full (m.class p) (law.admitted_has_class p admitted));
    fits = rw none_in (law.empty_takes p admitted);
    standing = λ h. elim (law.standing_none_or_cost (m.class p) (law.admitted_has_class p admitted)) [
      | inl z ↦ absurd (true≢false (sym (one_full z) ∙ h))
      | inr e ↦ e
    ];
    sums = used_then;
    ratio = fresh_sum _ (m.unit * s.used) _ _ _ _ _ _ (mul-add m.unit s.used (m.cost (m.class p))) sound.ratio (heavy off);
  }

  -- the rules' step, by whether the piece goes into what stands open, and whether it fills the container
  sound_by : (g : Bool) → goes_on m s p ≡ g → Ready m qs s p (cond g (found m s p) (fresh s)) (cond g s.opened (s.opened + 1)) (cond g s.used (s.used + m.cost (m.class p)))
  sound_by true e = let both = and_parts (stands (found m s p)) (fits_found m s p) e in going both.0 both.1
  sound_by false e = opening e

  accepted_sound : Sound m (push qs (placed_in m p (taking m s p))) (ledger_after m s p)
  accepted_sound = stepped m law qs s sound p admitted (taking m s p) _ _ (sound_by (goes_on m s p) refl) (closes_after m s p) refl

-- A put is refused, or its piece is admitted and placed

module _ (m : Meaning) (s : Ledger) (p : Piece) where
  abbrev pub Answered : Result Placing PutRefusal → Type 0
  Answered a = ((r : PutRefusal) × (a ≡ Err r)) ⊎ (Admitted m p × (a ≡ Ok (placing m s p)) × (s.accepted < 100000))

  by_cond : (b : Bool) (r : PutRefusal) (a : Result Placing PutRefusal) → (b ≡ false → Answered a) → Answered (cond b (Err r) a)
  by_cond true r a h = inl (r, refl)
  by_cond false r a h = h refl

  by_kind : (o : Option PieceRefusal) → m.refusal p ≡ o → (places closes : ℕ) → Answered (kind_answer m s p o places closes)
  by_kind (Some r) e places closes = inl (NotAdmitted r, refl)
  by_kind None e places closes =
      by_cond (leb 100000 s.accepted) SeasonFull _ (λ few. by_cond (eqb places 0 || ltb closes (closings m s p)) ListFull _ (λ room. inr (e, refl, leb-false 100000 s.accepted few)))

  pub answered : (places closes : ℕ) → Answered (put_answer m s p places closes)
  answered places closes = by_cond (eqb p.number 0) NoNumber _ (λ some. by_kind (m.refusal p) refl places closes)

new_down : (c : ℕ) → c ≤ 104 → open_in new_ledger c ≡ nothing
new_down c h = get_or-replicate 104 (c - 1) nothing nothing (omega arith)

new_sound : (m : Meaning) → Sound m [] new_ledger
new_sound m = record {
  bank = refl;
  within = All-nil (Numbered 0);
  in_turn = refl;
  classes = All-nil (λ q. q.class ≡ class_in q.container []);
  weight = refl;
  used = refl;
  groups = λ n a b. absurd (omega arith);
  opens = λ c a b up. absurd (true≢false (sym up ∙ ap stands (new_down c b)));
  ratio = omega arith;
}

put_sound : (m : Meaning) → Lawful m → (h : List Call) (s : Ledger) → Sound m (placed h) s → (p : Piece) (a : Result Placing PutRefusal) → Answered m s p a → Sound m (placed (h ++ (a_put p a ∷ []))) (ledger_by m s p a)
put_sound m law h s sound p a (inl x) =
    rw x.1 (rw (placed_same h (a_put p (Err x.0)) refl) sound)
put_sound m law h s sound p a (inr x) =
    rw x.1 (rw (placed_then h (a_put p (Ok (placing m s p)))) (accepted_sound m law (placed h) s sound p x.0))

pub ran_sound : (m : Meaning) → Lawful m → {h : List Call} {s : Ledger} → Ran m h s → Sound m (placed h) s
ran_sound m law made = new_sound m
ran_sound m law (then_put {h = h} {s = s} r p places closes) = put_sound m law h s (ran_sound m law r) p _ (answered m s p places closes)
ran_sound m law (then_report {h = h} {s = s} r) = rw (placed_same h (a_report (report m s)) refl) (ran_sound m law r)

-- What a sound ledger owes

module _ (m : Meaning) (law : Lawful m) (h : List Call) (s : Ledger) (sound : Sound m (placed h) s) where
  packed : AllowedPacking m (pieces_of (placed h)) (grouped m (placed h))
  packed = record {
    each_allowed = All-map (AllowedContainer m) (container_in m (placed h)) (numbers (placed h))
        (rw sound.in_turn
        (all_upto (λ n. AllowedContainer m (container_in m (placed h) n)) s.opened (λ n a b. let g : Group m (placed h) n = sound.groups n a b in (g.costs, g.allowed))));
    same_pieces = subst (λ l. IsPermutation l (pieces_of (placed h)))
        (sym (flat_map-map (λ k. k.pieces) (container_in m (placed h)) (numbers (placed h)) ∙ ap (flat_map (λ k. pieces_in k (placed h))) sound.in_turn))
        (regrouped s.opened (placed h) sound.within);
  }

  cost_used : cost_of (grouped m (placed h)) ≡ s.used
  cost_used =
      fold-map (λ n k. n + k.cost) (container_in m (placed h)) 0 (numbers (placed h))
      ∙ ap (sum_by (λ k. m.cost (class_in k (placed h)))) sound.in_turn
      ∙ sound.used

packing_light : (m : Meaning) → Lawful m → (ks : List Container) → All (AllowedContainer m) ks → weights m (flat_map (λ k. k.pieces) ks) ≤ m.ceiling * cost_of ks
packing_light m law [] h = omega arith
packing_light m law (k ∷ ks) h =
    let first = All-head (AllowedContainer m) k ks h in
    let here : weights m k.pieces ≤ m.ceiling * k.cost = law.allowed_weighs_at_most k.pieces k.cost first.0 first.1 in
    let rest : weights m (flat_map (λ k. k.pieces) ks) ≤ m.ceiling * cost_of ks = packing_light m law ks (All-tail (AllowedContainer m) k ks h) in
    omega (arith, sum_by-append m.weight k.pieces (flat_map (λ k. k.pieces) ks), ap (λ n. m.ceiling * n) (sum_by-cons (λ k. k.cost) k ks))

module _ (m : Meaning) (law : Lawful m) (h : List Call) (s : Ledger) (sound : Sound m (placed h) s) where
  no_cheaper : (ks : List Container) → AllowedPacking m (pieces_of (placed h)) ks → floor_of m.ceiling s.weight ≤ cost_of ks
  no_cheaper ks k =
      floor_least m.ceiling s.weight (cost_of ks) law.ceiling_range.0
      (omega (arith, sound.weight, sum_by-IsPermutation m.weight _ _ k.same_pieces, packing_light m law ks k.each_allowed))

  open_standing : (c : ℕ) → 1 ≤ c → c ≤ 104 → open_cost_in m s c ≤ m.standing c
  open_standing c low high =
      elim (cases_Bool (stands (open_in s c))) [
        | inl up ↦ rw up (omega (arith, (sound.opens c low high up).standing))
        | inr down ↦ rw down (omega arith)
      ]

  standing_all : sum_by (open_cost_in m s) (upto 104) ≤ standing_cost m
  standing_all =
      subst (λ n. sum_by (open_cost_in m s) (upto 104) ≤ n) (sum_past m.standing m.classes 104 law.few_classes (λ k l. (law.no_class_tells_nothing k (λ c. omega (arith, c.1))).1))
      (sum_le (open_cost_in m s) m.standing 104 open_standing)

  ratio : m.unit * s.used ≤ m.ceiling * floor_of m.ceiling s.weight + m.unit * standing_cost m
  ratio = last_sum _ (sum_by (open_weight s) (upto 104)) _ _ _ _ sound.ratio (floor_covers m.ceiling s.weight law.ceiling_range.0) (mul-le-mul_left m.unit standing_all)

  owed : Season m h (report m s)
  owed = record {
    one_class = sound.classes;
    packed = packed m law h s sound;
    cost_used = cost_used m law h s sound;
    no_cheaper = no_cheaper;
    ratio = ratio;
  }

pub season : (m : Meaning) → Lawful m → (h : List Call) (s : Ledger) → Ran m h s → Season m h (report m s)
season m law h s r = owed m law h s (ran_sound m law r)

pub capped : (m : Meaning) → Lawful m → (h : List Call) (s : Ledger) → Ran m h s → (p : Piece) → CapIdle m s p
capped m law h s r p admitted up = cap_idle m law (placed h) s (ran_sound m law r) p admitted up
