-- Laws on judging a formula's record: the number given is the first of what is wrong with it, by the passes over it.
use Prim.Native.Nat.{ℕ, ◌+◌, ◌%◌, ◌<◌}
use mathlib.Core.Path.{◌≡◌, refl, sym, ◌∙◌}
use mathlib.Core.Logic.{◌⊎◌, inl, inr, ⊎_elim}
use mathlib.Core.Bool.{Bool, true, false, true≢false, not, ◌&&◌, ◌||◌}
use mathlib.Core.List.{List}
use native.Mathlib.Omega.{arith}
use lib.Dec.{leb, ltb, lit<}
use lib.ListN.{length, drop, length-drop}
use borrow.Author.Tests.{leb-true, leb-false, ltb-true, ltb-false, eqb-true, eqb-false, le-leb, lt-ltb}
use borrow.Author.Tests.{not-false, not-true}
use Rattle.sets.specs.Sets.{any}
use Rattle.sets.proofs.Laws.{is_true, passes, fails, both, either, any_in, any_intro}
use Rattle.records.specs.Words.{word, odd}
use Rattle.records.specs.Codes.{is_formula_lem}
use Rattle.records.specs.Records.{whole, most, codes_in, judge_formula}
use Rattle.records.proofs.Words.{odd-length, even-length}
use Rattle.records.proofs.Judging.{or_clear}
use Rattle.formulas.proofs.Laws.{formula_exactly}
use Rattle.causes.specs.Causes.{WrongFormula, turn}
use Rattle.causes.proofs.First.{First, first-last, first_next}

module _ (F n : ℕ) (r : List ℕ) where
  abbrev W : ℕ → Type 0
  W = WrongFormula F n r

  -- the four tests
  abbrev unshaped : Bool
  unshaped = not (whole r) || odd (drop 2 r)

  abbrev over : Bool
  over = leb 64 n || ltb 255 (length (codes_in r))

  abbrev too_large : ℕ → Bool
  too_large c = leb F c && ltb c 32768

  abbrev none_such : Bool
  none_such = not (is_formula_lem (codes_in r))

  wrong-shape : unshaped ≡ true → WrongFormula F n r 4
  unfolding whole
  wrong-shape e =
      ⊎_elim (λ h. WrongFormula.unfit (eqb-false _ _ (not-true _ (is_true h))))
      (λ h. WrongFormula.shape (omega (arith, odd-length (drop 2 r) (is_true h), length-drop 2 r)))
      ((either (not (whole r)) (odd (drop 2 r))).0 (passes e))

  shaped : unshaped ≡ false → WrongFormula F n r 4 → ⊥
  unfolding whole
  shaped e w =
      let (fit, even) = or_clear (not (whole r)) (odd (drop 2 r)) e in
      go (eqb-true _ _ (not-false _ fit)) (even-length (drop 2 r) even) w
    where
      go : length r ≡ 2 + word r → length (drop 2 r) % 2 ≡ 0 → WrongFormula F n r 4 → ⊥
      go fit even (WrongFormula.unfit h) = h fit
      go fit even (WrongFormula.shape h) = omega (arith, length-drop 2 r)

  too_many : over ≡ true → WrongFormula F n r 5
  too_many e =
      ⊎_elim (λ h. WrongFormula.count (leb-true _ _ (is_true h)))
      (λ h. WrongFormula.longer (ltb-true _ _ (is_true h)))
      ((either (leb 64 n) (ltb 255 (length (codes_in r)))).0 (passes e))

  few : over ≡ false → WrongFormula F n r 5 → ⊥
  few e (WrongFormula.count h) = omega (arith, leb-false 64 n (or_clear _ _ e).0)
  few e (WrongFormula.longer h) = omega (arith, ltb-false 255 (length (codes_in r)) (or_clear (leb 64 n) _ e).1)

  wrong-fact : any too_large (codes_in r) ≡ true → WrongFormula F n r 6
  wrong-fact e =
      let (c, i, t) = any_in too_large (codes_in r) (passes e) in
      let (high, small) = (both (leb F c) (ltb c 32768)).0 t in
      WrongFormula.fact c i (ltb-true _ _ (is_true small)) (leb-true _ _ (is_true high))

  known : any too_large (codes_in r) ≡ false → WrongFormula F n r 6 → ⊥
  known e (WrongFormula.fact c i small high) =
      fails e (any_intro too_large (codes_in r) c i
      ((both (leb F c) (ltb c 32768)).1 (passes (le-leb F c high), passes (lt-ltb c 32768 small))))

  wrong-formula : none_such ≡ true → WrongFormula F n r 17
  wrong-formula e =
      WrongFormula.formula (λ φ w. true≢false (sym ((formula_exactly (codes_in r)).1 (φ, w)) ∙ not-true _ e))

  formed : none_such ≡ false → WrongFormula F n r 17 → ⊥
  formed e (WrongFormula.formula h) = let (φ, w) = (formula_exactly (codes_in r)).0 (not-false _ e) in h φ w

  -- what can be wrong with it, in turn
  from-four : {k : ℕ} → WrongFormula F n r k → (k ≡ 4) ⊎ (turn 4 < turn k)
  unfolding turn
  from-four (WrongFormula.unfit h) = inl refl
  from-four (WrongFormula.shape h) = inl refl
  from-four (WrongFormula.count h) = inr (lit< tt)
  from-four (WrongFormula.longer h) = inr (lit< tt)
  from-four (WrongFormula.fact c i s h) = inr (lit< tt)
  from-four (WrongFormula.formula h) = inr (lit< tt)

  from_five : {k : ℕ} → WrongFormula F n r k → turn 4 < turn k → (k ≡ 5) ⊎ (turn 5 < turn k)
  unfolding turn
  from_five (WrongFormula.unfit h) m = absurd (omega arith)
  from_five (WrongFormula.shape h) m = absurd (omega arith)
  from_five (WrongFormula.count h) m = inl refl
  from_five (WrongFormula.longer h) m = inl refl
  from_five (WrongFormula.fact c i s h) m = inr (lit< tt)
  from_five (WrongFormula.formula h) m = inr (lit< tt)

  from_six : {k : ℕ} → WrongFormula F n r k → turn 5 < turn k → (k ≡ 6) ⊎ (turn 6 < turn k)
  unfolding turn
  from_six (WrongFormula.unfit h) m = absurd (omega arith)
  from_six (WrongFormula.shape h) m = absurd (omega arith)
  from_six (WrongFormula.count h) m = absurd (omega arith)
  from_six (WrongFormula.longer h) m = absurd (omega arith)
  from_six (WrongFormula.fact c i s h) m = inl refl
  from_six (WrongFormula.formula h) m = inr (lit< tt)

  from_last : {k : ℕ} → WrongFormula F n r k → turn 6 < turn k → k ≡ 17
  unfolding turn
  from_last (WrongFormula.unfit h) m = absurd (omega arith)
  from_last (WrongFormula.shape h) m = absurd (omega arith)
  from_last (WrongFormula.count h) m = absurd (omega arith)
  from_last (WrongFormula.longer h) m = absurd (omega arith)
  from_last (WrongFormula.fact c i s h) m = absurd (omega arith)
  from_last (WrongFormula.formula h) m = refl

  pub formula-first : First (judge_formula F n r) (WrongFormula F n r)
  unfolding judge_formula most turn
  formula-first =
      first_next W 4 unshaped _ wrong-shape shaped (λ k w. from-four w)
      (first_next (λ k. W k × (turn 4 < turn k)) 5 over _ (λ e. (too_many e, lit< tt)) (λ e w. few e w.0)
      (λ k (w, m). from_five w m)
      (first_next (λ k. (W k × (turn 4 < turn k)) × (turn 5 < turn k)) 6 (any too_large (codes_in r)) _
      (λ e. ((wrong-fact e, lit< tt), lit< tt)) (λ e w. known e w.0.0) (λ k ((w, _), m). from_six w m)
      (first-last (λ k. ((W k × (turn 4 < turn k)) × (turn 5 < turn k)) × (turn 6 < turn k)) 17 none_such
      (λ e. (((wrong-formula e, lit< tt), lit< tt), lit< tt)) (λ e w. formed e w.0.0.0)
      (λ k (((w, _), _), m). from_last w m))))
