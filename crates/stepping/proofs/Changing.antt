-- Laws on changing a set number by number along a list.
use Prim.Native.Nat.{ℕ, ◌<◌}
use mathlib.Core.Path.{◌≡◌, refl}
use mathlib.Core.Bool.{Bool, true, false, not, ◌&&◌, ◌||◌}
use mathlib.Core.List.{List, [], ◌∷◌}
use borrow.Author.Tests.{eqb-true}
use lib.Dec.{eqb}
use Rattle.sets.specs.Sets.{Facts, any, listed, ◌∈◌}
use Rattle.sets.proofs.Laws.{by-test}
use Rattle.facts.specs.Facts.{within}

-- every number of these is below the limit
abbrev pub Below : ℕ → List ℕ → Type 0
Below limit ns = (f : ℕ) → f ∈ ns → f < limit

-- u is what a number of the list does to the membership of a number g in a set of a width: adding or removing
module _ (w : ℕ) (u : ℕ → Bool → Bool → Bool)
    (idle : (g : ℕ) (x : Bool) → u g x false ≡ x)
    (twice : (g : ℕ) (x a b : Bool) → u g (u g x a) b ≡ u g x (a || b)) where
  -- one more is done: what the later ones do is what it and they do
  pub done-one : {ns : List ℕ} {n : ℕ} {later : List ℕ} (set set' : List ℕ) → ns ≡ n ∷ later
      → ((g : ℕ) → within w set' g ≡ u g (within w set g) (eqb g n)) → (g : ℕ)
      → u g (within w set' g) (listed later g) ≡ u g (within w set g) (listed ns g)
  unfolding listed any
  done-one set set' here e g = rw (e g, here) (twice g _ _ _)

  -- where none is left there is nothing to do
  pub done_all : {ns : List ℕ} (set : List ℕ) → ns ≡ [] → (g : ℕ)
      → u g (within w set g) (listed ns g) ≡ within w set g
  unfolding listed any
  done_all set none g = rw none (idle g _)

-- adding, then adding
pub add_twice : (g : ℕ) (x a b : Bool) → ((x || a) || b) ≡ (x || (a || b))
add_twice g true a b = refl
add_twice g false a b = refl

pub add_idle : (g : ℕ) (x : Bool) → (x || false) ≡ x
add_idle g true = refl
add_idle g false = refl

-- what a fact that goes does to the membership of a fact g, where those of a set stay
abbrev pub without : Facts → ℕ → Bool → Bool → Bool
without persistent g x gone = x && not (gone && not (persistent g))

-- removing, then removing
pub remove_twice : (k : Facts) (g : ℕ) (x a b : Bool) → without k g (without k g x a) b ≡ without k g x (a || b)
remove_twice k g x a b = go (k g) x a b
  where
    go : (k x a b : Bool) → ((x && not (a && not k)) && not (b && not k)) ≡ (x && not ((a || b) && not k))
    go true true true true = refl
    go true true true false = refl
    go true true false b = refl
    go false true true b = refl
    go false true false b = refl
    go k false a b = refl

pub remove_idle : (k : Facts) (g : ℕ) (x : Bool) → without k g x false ≡ x
remove_idle k g true = refl
remove_idle k g false = refl

-- Removing a fact of the set changes nothing;
pub keeps : (k : Facts) (n : ℕ) → k n ≡ true → (g : ℕ) (x : Bool) → without k g x (eqb g n) ≡ x
keeps k n e g x =
    by-test (eqb g n) (λ t. let same : g ≡ n = eqb-true g n t in rw (t, same, e) (remove_idle k g x))
    (λ t. rw t (remove_idle k g x))

-- removing another takes it away.
pub takes : (k : Facts) (n : ℕ) → k n ≡ false → (g : ℕ) (x : Bool) → without k g x (eqb g n) ≡ (x && not (eqb g n))
takes k n e g x =
    by-test (eqb g n) (λ t. let same : g ≡ n = eqb-true g n t in rw (t, same, e)) (λ t. rw t)
