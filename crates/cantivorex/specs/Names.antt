-- The words of the line that the program prints: the name of a verdict's number (document 01, "Verdict numbers and the
-- order") and the kind of the unmet condition (document 02, wish 7), as bytes.
use Rattle.std.specs.Prelude.{ℕ, List, [], ◌∷◌, get_or, codes}

-- the column "name" of document 01's table, from number 0 on; 8 is never given and has none, nor have 14 to 16. 12 and
-- 13 (wish 9) and 17 (wish 11) are document 02's
unfoldable pub names : List (List ℕ)
names =
    codes "ATTACK"
    ∷ codes "ROOM"
    ∷ codes "LONG"
    ∷ codes "VERSION"
    ∷ codes "SHAPE"
    ∷ codes "COUNT"
    ∷ codes "FACT"
    ∷ codes "ORDER"
    ∷ []
    ∷ codes "NAME"
    ∷ codes "BLOCKED"
    ∷ codes "NOATTACK"
    ∷ codes "BADNAME"
    ∷ codes "USED"
    ∷ []
    ∷ []
    ∷ []
    ∷ codes "FORMULA"
    ∷ []

-- the name of a number
unfoldable pub name_of_number : ℕ → List ℕ
unfolding names
name_of_number number = get_or names number []

-- "the line as `kind` (`positive` or `negative`) .. (`none` where there is no value)", from kind 0 on
unfoldable pub name_of_kind : ℕ → List ℕ
name_of_kind kind = get_or (codes "none" ∷ codes "positive" ∷ codes "negative" ∷ []) kind (codes "none")
