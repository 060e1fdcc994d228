-- Laws on the first of several faults.
use mathlib.Core.Path.{◌≡◌}
use mathlib.Core.Option.{Option, none, some}
use Rattle.records.specs.Records.{◌or_else◌}

module _ {ℓ} {A : Type ℓ} (x y : Option A) where
  -- A first fault is the first of two.
  pub or_first : (a : A) → x ≡ some a → (x or_else y) ≡ some a
  unfolding ◌or_else◌
  or_first a e = rw e

  -- Without it the second is.
  pub or_next : x ≡ none → (x or_else y) ≡ y
  unfolding ◌or_else◌
  or_next e = rw e
