-- Document 01's cases A to L hold: the lines of the whole table computed at once, and one law that turns that into
-- the claim at each row.
use Prim.Native.Nat.{ℕ}
use mathlib.Core.Path.{◌≡◌, refl, ap, ◌∙◌}
use mathlib.Core.Bool.{false}
use mathlib.Core.List.Memᴰ
use mathlib.Core.List.{[], List, ◌∷◌, map}
use mathlib.Core.Option
use Rattle.sets.specs.Sets.{listed, ◌∈◌}
use Rattle.meaning.specs.Rounds.{round_number}
use Rattle.records.specs.Codes.{behind, is_formula_lem}
use Rattle.records.specs.Records.{given, ◌or_else◌}
use Rattle.formulas.specs.Codes.{read}
use Rattle.files.specs.Files.{model_of_lem, pair_fault}
use Rattle.causes.specs.Written.{rule_bytes, written_model, written_trace}
use Rattle.reaching.specs.Reaching.{Lent}
use Rattle.checking.specs.Verdict.{no_space_lem, blamed, refusal, verdict_of_lem}
use Rattle.checking.specs.Promises.{Line, shown, verdict}
use Rattle.checking.specs.Cases.{Case, cases, DeskModel, desk, r0, AllHold}
use Rattle.running.specs.declared.Verdict.{Verdict}

-- the verdict where there is room
unfoldable roomy : List ℕ → List ℕ → Verdict
unfolding verdict_of_lem blamed pair_fault
roomy m t = verdict_of_lem m t (Option.map blamed (pair_fault m t))

roomy-is : (m t : List ℕ) (l : Lent) → no_space_lem l ≡ false → verdict m t l ≡ roomy m t
unfolding roomy refusal given ◌or_else◌
roomy-is m t l e = rw e

-- the line of a row
unfoldable line : Case → Line
unfolding roomy written_model written_trace
line c = shown (roomy (written_model c.version c.model) (written_trace c.trace))

-- The lines are those expected.
all_lines : map line cases ≡ map (λ c. c.expected) cases
unfolding line cases is_formula_lem behind read
all_lines = refl

-- Two functions with the same images on a list agree at each of its entries.
same_at : {A B : Type 0} (f g : A → B) (xs : List A) → map f xs ≡ map g xs → (x : A) → x ∈ xs → f x ≡ g x
same_at f g [] e x m = elim m [ ]
same_at f g (y ∷ ys) e x (Memᴰ.head is) = rw is (cc)
same_at f g (y ∷ ys) e x (Memᴰ.tail m) = same_at f g ys (cc) x m

-- Every case of document 01 has the line that the document states.
pub cases_hold : AllHold
unfolding line
cases_hold c m l e =
    ap (λ (v : Verdict). shown v) (roomy-is (written_model c.version c.model) (written_trace c.trace) l e)
    ∙ same_at line (λ c. c.expected) cases all_lines c m

-- The desk model's bytes are those that the document states, and so are the round numbers at its start.
pub desk-model : DeskModel
unfolding desk r0 written_model rule_bytes written_trace listed round_number model_of_lem
desk-model = record { size = refl; read = refl; r0-bytes = refl; trace_B = refl; starts = refl }
