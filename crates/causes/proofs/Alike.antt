-- Two models without a fault that are the same lists refuse the same traces, for the same bytes.
use Prim.Native.Nat.{ℕ}
use mathlib.Core.Path.{◌≡◌, refl, sym, ap, ◌∙◌}
use mathlib.Core.List.{List}
use mathlib.Core.Option.{Option, none, some, map}
use lib.ListN.{length}
use Rattle.meaning.specs.Model.{Model, aims}
use Rattle.records.specs.Records.{◌or_else◌}
use Rattle.sections.specs.Sections.{too_long, wrong_version}
use Rattle.sections.proofs.Fits.{neither}
use Rattle.files.specs.Files.{Blamed, model_of_lem, model_bytes, trace_bytes, model_version, trace_version, shape_fault}
use Rattle.files.specs.Files.{model_fault, trace_fault, heads_fault, files_fault, pair_fault}
use Rattle.files.specs.Files.Blamed.{trace}

-- what is left to refuse, where the model by itself is fine
abbrev trace_alone : Model → List ℕ → Option Blamed
trace_alone M t =
    (map trace (too_long trace_bytes t) or_else map trace (wrong_version trace_version t))
    or_else map trace (trace_fault (length (aims M)) (length M.rules) t)

trace-alone : (m t : List ℕ) → model_fault m ≡ none → pair_fault m t ≡ trace_alone (model_of_lem m) t
unfolding model_fault pair_fault files_fault heads_fault ◌or_else◌
trace-alone m t fine =
    let (short, rest) = neither (too_long model_bytes m) _ fine in
    let (version, shape) = neither (wrong_version model_version m) (shape_fault m) rest in
    rw (short, version, shape) (alone (map trace (too_long trace_bytes t)) _ _)
  where
    alone : (x y z : Option Blamed)
        → ((none or_else (x or_else (none or_else y))) or_else none) or_else z ≡ ((x or_else y) or_else z)
    alone none none z = refl
    alone none (some b) z = refl
    alone (some b) y z = refl

pub same-fault : (one two t : List ℕ) → model_fault one ≡ none → model_fault two ≡ none → model_of_lem one ≡ model_of_lem two
    → pair_fault one t ≡ pair_fault two t
same-fault one two t fine-one fine-two same =
    trace-alone one t fine-one ∙ ap (λ M. trace_alone M t) same ∙ sym (trace-alone two t fine-two)
