-- The contracts of the functions here have one result each.
use Prim.Native.Nat.{ℕ}
use mathlib.Core.Path.{◌≡◌, refl, sym, ap, ◌∙◌}
use mathlib.Core.List.{List}
use native.Mathlib.Omega.{arith}
use Rattle.sets.specs.Sets.{Facts}
use Rattle.std.specs.Prelude.{Option, Some, None}
use Rattle.facts.proofs.Laws.{Bytes, determined}
use Rattle.stepping.specs.Conditions.{condition_of, unmet_in}
use Rattle.stepping.specs.Stepping.{Holds}
use Rattle.stepping.specs.declared.conditions.Condition.TheVariants as condition

-- Two buffers that `fill`, `apply`, `add_all` or `remove_all` can leave are the same.
pub holds_unique : {width : ℕ} {before a b : List ℕ} {X : Facts} → Bytes a → Bytes b → Holds width before a X
    → Holds width before b X → a ≡ b
holds_unique ha hb p q = determined ha hb p.kept q.kept (λ g. p.set g ∙ sym (q.set g))

-- Two answers that are the same condition are the same answer: what `nth` promises has one result.
pub condition_unique : (x y : condition.the_data) → condition_of x ≡ condition_of y → x ≡ y
unfolding condition_of
condition_unique (condition.Positive f) (condition.Positive g) e = let h : f ≡ g = cc in ap condition.Positive h
condition_unique (condition.Negative f) (condition.Negative g) e = let h : f ≡ g = cc in ap condition.Negative h
condition_unique (condition.Unused f) (condition.Unused g) e = let h : f ≡ g = cc in ap condition.Unused h
condition_unique (condition.Positive f) (condition.Negative g) e = let z : ◌≡◌ {A = ℕ} 0 1 = cc in absurd (omega arith)
condition_unique (condition.Positive f) (condition.Unused g) e = let z : ◌≡◌ {A = ℕ} 0 1 = cc in absurd (omega arith)
condition_unique (condition.Negative f) (condition.Positive g) e = let z : ◌≡◌ {A = ℕ} 0 1 = cc in absurd (omega arith)
condition_unique (condition.Negative f) (condition.Unused g) e = let z : ◌≡◌ {A = ℕ} 0 1 = cc in absurd (omega arith)
condition_unique (condition.Unused f) (condition.Positive g) e = let z : ◌≡◌ {A = ℕ} 0 1 = cc in absurd (omega arith)
condition_unique (condition.Unused f) (condition.Negative g) e = let z : ◌≡◌ {A = ℕ} 0 1 = cc in absurd (omega arith)

-- The same for what `first_of` and `first_unmet` promise.
pub unmet_unique : (x y : Option condition.the_data) → unmet_in x ≡ unmet_in y → x ≡ y
unmet_unique None None e = refl
unmet_unique None (Some d) e = cc
unmet_unique (Some c) None e = cc
unmet_unique (Some c) (Some d) e =
    let h : condition_of c ≡ condition_of d = cc in
    ap Some (condition_unique c d h)
