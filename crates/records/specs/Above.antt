-- Contracts between functions: what a reader of a formula's codes keeps of the operators above the place it has come
-- to. No promise to the outside rests on these.
use Rattle.std.specs.Prelude.{ℕ, ◌+◌, ◌*◌, Bool, true, false, cond, List, [], ◌∷◌, ltb}
use Rattle.std.proofs.Math.Option.{Option, none, some}
use Rattle.records.specs.Codes.{over_two_lem}

-- of each operator above, the nearest first, whether its second formula is still to come: as bits under a leading 1,
-- the nearest last
unfoldable pub bits : List Bool → ℕ
bits [] = 1
bits (second ∷ above) = 2 * bits above + cond second 1 0

-- the same, or 0 where the whole formula has ended
unfoldable pub bits_of : Option (List Bool) → ℕ
unfolding bits
bits_of none = 0
bits_of (some above) = bits above

-- where a formula has ended: so has what it is the last part of, up to an operator whose second formula then starts
unfoldable pub ended : List Bool → Option (List Bool)
ended [] = none
ended (true ∷ above) = some (false ∷ above)
ended (false ∷ above) = ended above

-- after a code: a fact is a whole formula, and an operator is above what follows
unfoldable pub after : ℕ → List Bool → Option (List Bool)
unfolding ended over_two_lem
after c above = cond (ltb c 32768) (ended above) (some (over_two_lem c ∷ above))
