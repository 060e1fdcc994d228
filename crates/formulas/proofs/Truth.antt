-- A formula's truth depends on its facts alone.
use Prim.Native.Nat.{ℕ, ◌+◌, ◌<◌}
use mathlib.Core.Path.{◌≡◌, ap, fun_ext}
use mathlib.Core.Bool.{not}
use lib.ListN.{length, drop, length-drop}
use lib.Seq.{drop-drop}
use Rattle.meaning.specs.Past.{Formula, History, present, some_below, truth}
use Rattle.meaning.specs.Past.Formula.{fact, negation, both, either, implies, yesterday, once, historically, since}
use Rattle.formulas.specs.Codes.{FactsBelow}

-- Two histories of one length that have the same facts below F, each so many states ago.
pub record AlikeBelow (F : ℕ) (h k : History) : Type 0 where
  pub long : length h ≡ length k
  pub facts : (j f : ℕ) → f < F → present (drop j h) f ≡ present (drop j k) f

module _ {F : ℕ} where
  -- So they had some states ago.
  alike-before : {h k : History} → AlikeBelow F h k → (i : ℕ) → AlikeBelow F (drop i h) (drop i k)
  alike-before {h} {k} a i = record {
    long = rw (length-drop i h, length-drop i k, a.long);
    facts = λ j f l. rw (drop-drop j i h, drop-drop j i k) (a.facts (i + j) f l);
  }

  -- A formula whose facts are below F is true in both or in neither.
  pub truth-below : (φ : Formula) → FactsBelow F φ → {h k : History} → AlikeBelow F h k → truth φ h ≡ truth φ k
  unfolding FactsBelow truth
  truth-below (fact f) l a = a.facts 0 f l
  truth-below (negation p) l a = ap not (truth-below p l a)
  truth-below (both p q) l a = rw (truth-below p l.0 a, truth-below q l.1 a)
  truth-below (either p q) l a = rw (truth-below p l.0 a, truth-below q l.1 a)
  truth-below (implies p q) l a = rw (truth-below p l.0 a, truth-below q l.1 a)
  truth-below (yesterday p) l a = rw (a.long, truth-below p l (alike-before a 1))
  truth-below (once p) l a = rw (a.long, fun_ext (λ (j : ℕ). truth-below p l (alike-before a j)))
  truth-below (historically p) l a = rw (a.long, fun_ext (λ (j : ℕ). truth-below p l (alike-before a j)))
  truth-below (since p q) l {k} a =
      rw a.long
      (ap (some_below (length k)) (fun_ext (λ (j : ℕ).
      rw (truth-below q l.1 (alike-before a j), fun_ext (λ (i : ℕ). truth-below p l.0 (alike-before a i))))))
