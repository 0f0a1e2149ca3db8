-- Pieces whose places were told do not overlap. Assumes nothing.
use Rattle.std.proofs.Common.{◌≡◌, ℕ, ◌+◌, ◌≤◌, List, [], ◌∷◌, ◌++◌, IfOk, None, Ok, Err, Result, sym, refl, ap, ◌∙◌, subst, inl, inr, arith, All}
use Rattle.std.proofs.lemmas.List.{flat_map_more, append-nil, map_push}
use Rattle.std.proofs.lemmas.List.Elements.{All-nil, All-push, All-weaker}
use Rattle.std.proofs.lemmas.List.Quantifiers.{all_pairs_push}
use Rattle.std.proofs.lemmas.List.Sums.{sum_by_push}
use Rattle.std.proofs.lemmas.Bool.{cases_eq, cond_both, and_parts}
use Rattle.kinds.specs.declared.piece.Piece.{Piece}
use Rattle.refusals.specs.declared.PutRefusal.{PutRefusal}
use Rattle.kinds.specs.Kind.{Meaning, Lawful, Admitted, level}
use Rattle.ledger.specs.declared.Placing.{Placing}
use Rattle.ledger.specs.declared.Slot.{Slot}
use Rattle.ledger.specs.declared.Ledger.{Ledger}
use Rattle.ledger.specs.Rules.{Call, a_put, a_report, Ran, then_put, stands, found, fits_found, goes_on, taking, put_answer, put_ledger}
use Rattle.ledger.specs.Season.{Placed, placed_by, placed, pieces_in}
use Rattle.ledger.specs.Places.{place_in, Noted, silent, telling, call_of, calls, level_in, AtLevels, none_told, then_silent, then_told, RanLaid, Stretch, covered, stretch_of, stretches, Apart, LaidSeason}
use Rattle.ledger.proofs.Bounds.{class_range}
use Rattle.ledger.proofs.Groups.{placed_then, placed_same, pieces_push_same, pieces_push_other}
use Rattle.ledger.proofs.Sound.{Sound}
use Rattle.ledger.proofs.Seasons.{none_in, Answered, answered, ran_sound}

-- Levels along the calls

module _ (m : Meaning) (k : ℕ) (h : List Call) where
  -- a call that places nothing
  level_same : (c : Call) → placed_by c ≡ [] → level_in m k (h ++ (c ∷ [])) ≡ level_in m k h
  level_same c e = ap (λ l. level m (pieces_in k l)) (placed_same h c e)

  -- a piece in container k, and one in another
  level_more : (p : Piece) (a : Placing) → a.container ≡ k → level_in m k (h ++ (a_put p (Ok a) ∷ [])) ≡ level_in m k h + m.load p
  level_more p a e =
      ap (λ l. level m (pieces_in k l)) (placed_then h (a_put p (Ok a)))
      ∙ ap (level m) (pieces_push_same k (placed h) _ e)
      ∙ sum_by_push m.load (pieces_in k (placed h)) p

  level_other : (p : Piece) (a : Placing) → (a.container ≡ k → ⊥) → level_in m k (h ++ (a_put p (Ok a) ∷ [])) ≡ level_in m k h
  level_other p a ne =
      ap (λ l. level m (pieces_in k l)) (placed_then h (a_put p (Ok a)))
      ∙ ap (level m) (pieces_push_other k (placed h) _ ne)

  -- no call lowers a level
  level_grows : (c : Call) → level_in m k h ≤ level_in m k (h ++ (c ∷ []))
  level_grows (a_report r) = omega (arith, level_same (a_report r) refl)
  level_grows (a_put p (Err r)) = omega (arith, level_same (a_put p (Err r)) refl)
  level_grows (a_put p (Ok a)) =
      elim (cases_eq a.container k) [
        | inl e ↦ omega (arith, level_more p a e)
        | inr ne ↦ omega (arith, level_other p a ne)
      ]

-- Stretches along the calls

calls_then : (n : List Noted) (c : Noted) → calls (n ++ (c ∷ [])) ≡ calls n ++ (c.call ∷ [])
calls_then n c = map_push call_of n c

stretches_then : (m : Meaning) (n : List Noted) (c : Noted) → stretches m (n ++ (c ∷ [])) ≡ stretches m n ++ stretch_of m c
stretches_then m n c = sym (flat_map_more (stretch_of m) [] n c)

covers_none : (m : Meaning) (c : Call) → covered m c None ≡ []
covers_none m (a_report r) = refl
covers_none m (a_put p (Err r)) = refl
covers_none m (a_put p (Ok a)) = refl

-- within the level of its container, after the calls h
abbrev Inside : Meaning → List Call → Stretch → Type 0
Inside m h t = t.to ≤ level_in m t.container h

-- what was inside stays so
inside_then : (m : Meaning) (n : List Noted) (c : Noted) → All (Inside m (calls n)) (stretches m n) → All (Inside m (calls (n ++ (c ∷ [])))) (stretches m n)
inside_then m n c h =
    rw (calls_then n c)
    (All-weaker (Inside m (calls n)) (Inside m (calls n ++ (c.call ∷ []))) (λ t i. omega (arith, i, level_grows m t.container (calls n) c.call)) (stretches m n) h)

pub laid_season : (m : Meaning) {n : List Noted} → AtLevels m n → LaidSeason m n
laid_season m none_told = record { no_overlap = λ i j d a b. absurd (omega arith); within_level = All-nil (Inside m []) }
laid_season m (then_silent {n = n} r c) =
    let old : LaidSeason m n = laid_season m r in
    let x : Noted = silent c in
    let same : stretches m (n ++ (x ∷ [])) ≡ stretches m n = stretches_then m n x ∙ ap (λ l. stretches m n ++ l) (covers_none m c) ∙ append-nil (stretches m n) in
    record {
      no_overlap = rw same old.no_overlap;
      within_level = rw same (inside_then m n x old.within_level);
    }
laid_season m (then_told {n = n} r p a) =
    let old : LaidSeason m n = laid_season m r in
    let at : ℕ = level_in m a.container (calls n) in
    let x : Noted = telling at p (Ok a) in
    let b : Stretch = record { container = a.container; from = at; to = at + m.load p } in
    let more : stretches m (n ++ (x ∷ [])) ≡ stretches m n ++ (b ∷ []) = stretches_then m n x in
    let front : All (λ t. Apart t b) (stretches m n) = All-weaker (Inside m (calls n)) (λ t. Apart t b) (λ t i e. inl (subst (λ k. t.to ≤ level_in m k (calls n)) e i)) (stretches m n) old.within_level in
    let here : Inside m (calls (n ++ (x ∷ []))) b = rw (calls_then n x) (omega (arith, level_more m a.container (calls n) p a refl)) in
    record {
      no_overlap = rw more (all_pairs_push Apart (stretches m n) b old.no_overlap front);
      within_level = rw more (All-push (Inside m (calls (n ++ (x ∷ [])))) (stretches m n) b (inside_then m n x old.within_level) here);
    }

-- any call that tells no place, as a step of such a season
pub then_call : (m : Meaning) (n : List Noted) (c : Call) (s : Ledger) → Ran m (calls n ++ (c ∷ [])) s → AtLevels m n → RanLaid m (n ++ (silent c ∷ [])) s
then_call m n c s ran at = (rw (calls_then n (silent c)) ran, then_silent at c)

-- The rules' place is the level by the calls

module _ (m : Meaning) (law : Lawful m) (qs : List Placed) (s : Ledger) (sound : Sound m qs s) (p : Piece) (admitted : Admitted m p) where
  taking_at_level : (taking m s p).level ≡ level m (pieces_in (taking m s p).container qs)
  taking_at_level =
      let range = class_range m law p admitted in
      cond_both (goes_on m s p) (found m s p) _ (λ (t : Slot). t.level ≡ level m (pieces_in t.container qs))
      (λ e. (sound.opens (m.class p) range.0 range.1 (and_parts (stands (found m s p)) (fits_found m s p) e).0).tells.level)
      (λ e. sym (ap (level m) (none_in m law qs s sound p admitted)))

-- by which the place that a put tells is the level of its container, as the calls before filled it
pub told_level : (m : Meaning) → Lawful m → (h : List Call) (s : Ledger) → Ran m h s → (p : Piece) (a : Result Placing PutRefusal) → Answered m s p a → IfOk a (λ x. place_in m s p ≡ level_in m x.container h)
told_level m law h s ran p a (inl x) = rw x.1 tt
told_level m law h s ran p a (inr x) = rw x.1 (taking_at_level m law (placed h) s (ran_sound m law ran) p x.0)

-- a put that tells its place, as a step of such a season
module _ (m : Meaning) (law : Lawful m) (n : List Noted) (s : Ledger) (ran : RanLaid m n s) (p : Piece) (places closes : ℕ) where
  noted : (a : Result Placing PutRefusal) → IfOk a (λ x. place_in m s p ≡ level_in m x.container (calls n)) → AtLevels m (n ++ (telling (place_in m s p) p a ∷ []))
  noted (Err r) h = then_silent ran.1 (a_put p (Err r))
  noted (Ok a) h = rw h (then_told ran.1 p a)

  pub then_put_laid : RanLaid m (n ++ (telling (place_in m s p) p (put_answer m s p places closes) ∷ [])) (put_ledger m s p places closes)
  then_put_laid = (
    rw (calls_then n _) (then_put ran.0 p places closes),
    noted (put_answer m s p places closes) (told_level m law (calls n) s ran.0 p _ (answered m s p places closes)),
  )
