-- Document 01's cases A to L as one table: a model and a trace, and the line expected ("The desk model and its
-- traces"); the cases that show why document 02's wish 2 was made, and those of its wishes 9 and 11.
use Rattle.std.specs.Prelude.{ℕ, zero, suc, ◌≡◌, false, List, [], ◌∷◌, map, length}
use Rattle.sets.specs.Sets.{listed, ◌∈◌}
use Rattle.meaning.specs.Past.{Formula}
use Rattle.meaning.specs.Past.Formula.{fact, negation, implies, yesterday, once, historically, since}
use Rattle.meaning.specs.Model.{Clause, Rule, Goal, Model, Trace}
use Rattle.meaning.specs.Rounds.{round_number}
use Rattle.files.specs.Files.{model_of_lem}
use Rattle.causes.specs.Written.{rule_bytes, written_model, written_trace}
use Rattle.reaching.specs.Reaching.{Lent}
use Rattle.checking.specs.Verdict.{no_space_lem}
use Rattle.checking.specs.Promises.{Line, shown, verdict}

infix 80 ◌from◌
-- ---- models and traces, as the document writes them

abbrev pub ◌from◌ : ℕ → List ℕ → Clause
h from body = record { head = h; body = body }

abbrev pub rule : List ℕ → List ℕ → List ℕ → Rule
rule P N A = record { P = P; N = N; A = A; names = [] }

abbrev pub maker : List ℕ → List ℕ → List ℕ → Rule
maker P A names = record { P = P; N = []; A = A; names = names }

abbrev pub goal : List ℕ → List ℕ → Goal
goal P N = record { P = P; N = N }

abbrev pub trace : ℕ → List ℕ → Trace
trace g ks = record { goal = g; steps = ks }

-- "r0 P 5, N 3, A 3"
unfoldable pub r0 : Rule
r0 = rule (5 ∷ []) (3 ∷ []) (3 ∷ [])

-- "F = 6 .. Initial 0, 1, 4. Clauses: 2 from 0, 1; 5 from 2, 4. Rules: r0 P 5, N 3, A 3; r1 P 0; r2 P 1, A 1. Attack
-- states: a0 P 3, 5; a1 P 4, N 0."
unfoldable pub desk : Model
unfolding r0
desk = record {
  F = 6;
  initial = 0 ∷ 1 ∷ 4 ∷ [];
  persistent = [];
  names = [];
  clauses = 2 from (0 ∷ 1 ∷ []) ∷ 5 from (2 ∷ 4 ∷ []) ∷ [];
  rules = r0 ∷ rule (0 ∷ []) [] [] ∷ rule (1 ∷ []) [] (1 ∷ []) ∷ [];
  goals = goal (3 ∷ 5 ∷ []) [] ∷ goal (4 ∷ []) (0 ∷ []) ∷ [];
  formulas = [];
}

-- "Other models have one attack state, whose P is the fact called goal below and whose N is empty; no rules"
abbrev pub other : ℕ → List ℕ → List Clause → List ℕ → Model
other F initial clauses P = record {
  F = F;
  initial = initial;
  persistent = [];
  names = [];
  clauses = clauses;
  rules = [];
  goals = goal P [] ∷ [];
  formulas = [];
}

-- what the document says of the desk model: "The file has 101 bytes; r0 is ..", "Round numbers at the start: 0, 0, 1,
-- none, 0, 2.", "Trace B is .."; and the file is read as that model
pub record DeskModel : Type 0 where
  pub size : length (written_model 1 desk) ≡ 101
  pub read : model_of_lem (written_model 1 desk) ≡ desk
  pub r0-bytes : rule_bytes r0
      ≡ 0x00 ∷ 0x0C ∷ 0x00 ∷ 0x01 ∷ 0x00 ∷ 0x05 ∷ 0x00 ∷ 0x01 ∷ 0x00 ∷ 0x03 ∷ 0x00 ∷ 0x01 ∷ 0x00 ∷ 0x03 ∷ []
  pub trace_B : written_trace (trace 0 (1 ∷ 0 ∷ []))
      ≡ 0x01 ∷ 0x00 ∷ 0x00 ∷ 0x00 ∷ 0x06 ∷ 0x00 ∷ 0x00 ∷ 0x00 ∷ 0x01 ∷ 0x00 ∷ 0x00 ∷ []
  pub starts : map (round_number desk.clauses (listed desk.initial)) (0 ∷ 1 ∷ 2 ∷ 3 ∷ 4 ∷ 5 ∷ [])
      ≡ 0 ∷ 0 ∷ 1 ∷ 65535 ∷ 0 ∷ 2 ∷ []

-- ---- the table

-- a row: a model, in a file of a version, and a trace, and the line for their files
pub record Case : Type 0 where
  pub version : ℕ
  pub model : Model
  pub trace : Trace
  pub expected : Line

abbrev row : ℕ → Model → Trace → ℕ → ℕ → ℕ → ℕ → ℕ → ℕ → ℕ → Case
row version m t number step condition rounds held kind round = record {
  version = version;
  model = m;
  trace = t;
  expected = record {
    number = number;
    step = step;
    fact = condition;
    rounds = rounds;
    held = held;
    kind = kind;
    round = round;
  };
}

abbrev case : Model → Trace → ℕ → ℕ → ℕ → ℕ → ℕ → ℕ → ℕ → Case
case = row 1

-- "When the fact holds only through a clause, the step stores it, and it outlives its derivation." (document 02, wish
-- 2): fact 1 holds through fact 0; the first rule asks for 1, the second takes 0 away, and 1 is the attack. As 01 has
-- it, the first rule adds 1 again; as published, 1 is persistent.
unfoldable pub translated : Model
translated = record {
  F = 2;
  initial = 0 ∷ [];
  persistent = [];
  names = [];
  clauses = 1 from (0 ∷ []) ∷ [];
  rules = rule (1 ∷ []) [] (1 ∷ []) ∷ rule (0 ∷ []) [] [] ∷ [];
  goals = goal (1 ∷ []) [] ∷ [];
  formulas = [];
}

unfoldable pub published : Model
published = record {
  F = 2;
  initial = 0 ∷ [];
  persistent = 1 ∷ [];
  names = [];
  clauses = 1 from (0 ∷ []) ∷ [];
  rules = rule (1 ∷ []) [] [] ∷ rule (0 ∷ []) [] [] ∷ [];
  goals = goal (1 ∷ []) [] ∷ [];
  formulas = [];
}

-- "only those of P that aren't persistent": the rule asks for the stored facts 0 and 1, and 1 is persistent
unfoldable pub stored : Model
stored = record {
  F = 2;
  initial = 0 ∷ 1 ∷ [];
  persistent = 1 ∷ [];
  names = [];
  clauses = [];
  rules = rule (0 ∷ 1 ∷ []) [] [] ∷ [];
  goals = goal (1 ∷ []) (0 ∷ []) ∷ [];
  formulas = [];
}

-- "A rule fires only if all its names are unused; firing uses them, and nothing frees them." (document 02, wish 9):
-- name 5 is in use at the start. The first rule adds fact 1 and makes 7, the second makes 5, the third takes fact 0
-- away and makes 3 and 7, the fourth asks for fact 1 and makes 5.
unfoldable pub named : Model
named = record {
  F = 2;
  initial = 0 ∷ [];
  persistent = [];
  names = 5 ∷ [];
  clauses = [];
  rules =
      maker [] (1 ∷ []) (7 ∷ []) ∷ maker [] [] (5 ∷ []) ∷ maker (0 ∷ []) [] (3 ∷ 7 ∷ []) ∷ maker (1 ∷ []) [] (5 ∷ [])
      ∷ [];
  goals = goal (1 ∷ []) [] ∷ [];
  formulas = [];
}

-- a model of one rule, with these names in use at the start
abbrev pub ruled : List ℕ → Rule → Model
ruled names r = record {
  F = 2;
  initial = [];
  persistent = [];
  names = names;
  clauses = [];
  rules = r ∷ [];
  goals = goal [] [] ∷ [];
  formulas = [];
}

-- "Nobody signed before the form was opened" (document 02, wish 11): fact 0 is opened, 1 signed, and 2 holds through 1.
-- The rules open, sign, take the signature away, and close. Goal 0 is an attack state; goal 1 says that whoever signed
-- had opened before, goal 2 that fact 2 has not held since the form was open, goal 3 that it was signed one state ago.
unfoldable pub signing : Model
signing = record {
  F = 3;
  initial = [];
  persistent = [];
  names = [];
  clauses = 2 from (1 ∷ []) ∷ [];
  rules =
      rule [] [] (0 ∷ []) ∷ rule [] [] (1 ∷ []) ∷ rule (1 ∷ []) [] [] ∷ rule (0 ∷ []) [] [] ∷ [];
  goals = goal (1 ∷ []) (0 ∷ []) ∷ [];
  formulas =
      historically (implies (fact 1) (once (fact 0)))
      ∷ since (negation (fact 2)) (fact 0)
      ∷ yesterday (fact 1)
      ∷ [];
}

-- fact 0 under so many negations
unfoldable pub negated : ℕ → Formula
negated zero = fact 0
negated (suc n) = negation (negated n)

-- a model of so many facts and one formula
abbrev pub formula_only : ℕ → Formula → Model
formula_only F p = record {
  F = F;
  initial = [];
  persistent = [];
  names = [];
  clauses = [];
  rules = [];
  goals = [];
  formulas = p ∷ [];
}

-- the rows of "The desk model and its traces", A to L, and those of persistence, of names and of formulas
unfoldable pub cases : List Case
unfolding desk translated published stored named signing negated
cases =
    -- A to G, on the desk model
    case desk (trace 0 (0 ∷ [])) 0 1 65535 4 4 0 65535
    ∷ case desk (trace 0 (1 ∷ 0 ∷ [])) 10 1 5 2 2 1 65535
    ∷ case desk (trace 0 (0 ∷ 0 ∷ [])) 10 1 3 4 4 2 0
    ∷ case desk (trace 1 (1 ∷ [])) 0 1 65535 2 2 0 65535
    ∷ case desk (trace 1 []) 11 0 0 2 3 2 0
    ∷ case desk (trace 0 (2 ∷ [])) 11 1 3 4 3 1 65535
    ∷ case desk (trace 2 []) 9 0 65535 0 0 0 65535
    -- H to L; L in both clause orders
    ∷ case (other 0 [] [] []) (trace 0 []) 0 0 65535 0 0 0 65535
    ∷ case (other 1 [] (0 from [] ∷ []) (0 ∷ [])) (trace 0 []) 0 0 65535 1 0 0 65535
    ∷ case (other 1 [] (0 from (0 ∷ []) ∷ []) (0 ∷ [])) (trace 0 []) 11 0 0 0 0 1 65535
    ∷ case (other 2 [] (0 from (1 ∷ []) ∷ 1 from (0 ∷ []) ∷ []) (0 ∷ [])) (trace 0 []) 11 0 0 0 0 1 65535
    ∷ case (other 4 (0 ∷ []) (3 from (2 ∷ []) ∷ 2 from (1 ∷ []) ∷ 1 from (0 ∷ []) ∷ []) (3 ∷ []))
    (trace 0 []) 0 0 65535 3 1 0 65535
    ∷ case (other 4 (0 ∷ []) (1 from (0 ∷ []) ∷ 2 from (1 ∷ []) ∷ 3 from (2 ∷ []) ∷ []) (3 ∷ []))
    (trace 0 []) 0 0 65535 3 1 0 65535
    -- persistence: 01's way finds an attack where there is none
    ∷ case translated (trace 0 (0 ∷ 1 ∷ [])) 0 2 65535 1 1 0 65535
    ∷ row 2 published (trace 0 (0 ∷ 1 ∷ [])) 11 2 1 2 0 1 65535
    -- a stored persistent fact stays; what isn't persistent goes, so that the rule fires once
    ∷ row 2 stored (trace 0 (0 ∷ [])) 0 1 65535 0 1 0 65535
    ∷ row 2 stored (trace 0 (0 ∷ 0 ∷ [])) 10 1 0 0 1 1 65535
    -- names: unused, made before, in use at the start, the list's second, not freed by what takes a fact away; a fact
    -- that is missing comes first
    ∷ row 3 named (trace 0 (0 ∷ [])) 0 1 65535 0 2 0 65535
    ∷ row 3 named (trace 0 (0 ∷ 0 ∷ [])) 13 1 7 0 2 0 65535
    ∷ row 3 named (trace 0 (1 ∷ [])) 13 0 5 0 1 0 65535
    ∷ row 3 named (trace 0 (0 ∷ 2 ∷ [])) 13 1 7 0 2 0 65535
    ∷ row 3 named (trace 0 (2 ∷ 0 ∷ [])) 13 1 7 0 0 0 65535
    ∷ row 3 named (trace 0 (3 ∷ [])) 10 0 1 0 1 1 65535
    -- 1,023 is the last name; BADNAME comes after FACT and before ORDER
    ∷ row 3 (ruled (1023 ∷ []) (maker [] [] (1022 ∷ []))) (trace 0 (0 ∷ [])) 0 1 65535 0 0 0 65535
    ∷ row 3 (ruled (1024 ∷ []) (maker [] [] [])) (trace 0 []) 12 0 65535 0 0 0 65535
    ∷ row 3 (ruled [] (maker [] [] (1024 ∷ 1 ∷ []))) (trace 0 []) 12 0 65535 0 0 0 65535
    ∷ row 3 (ruled [] (maker [] (2 ∷ []) (1024 ∷ []))) (trace 0 []) 6 0 65535 0 0 0 65535
    ∷ row 3 (ruled (2 ∷ 2 ∷ []) (maker [] [] [])) (trace 0 []) 7 0 65535 0 0 0 65535
    -- formulas: signed without opening is an attack, signed after it is none, and so is nothing at all
    ∷ row 4 signing (trace 1 (1 ∷ [])) 0 1 65535 1 1 0 65535
    ∷ row 4 signing (trace 1 (0 ∷ 1 ∷ [])) 11 2 65535 1 2 0 65535
    ∷ row 4 signing (trace 1 []) 11 0 65535 0 0 0 65535
    -- Since: now, one state ago with its first part since, and broken by a fact of the closure
    ∷ row 4 signing (trace 2 []) 0 0 65535 0 0 0 65535
    ∷ row 4 signing (trace 2 (0 ∷ [])) 11 1 65535 0 1 0 65535
    ∷ row 4 signing (trace 2 (0 ∷ 3 ∷ [])) 11 2 65535 0 0 0 65535
    ∷ row 4 signing (trace 2 (0 ∷ 3 ∷ 1 ∷ [])) 0 3 65535 1 1 0 65535
    -- Yesterday: false at the start, not the present state, the state before
    ∷ row 4 signing (trace 3 []) 0 0 65535 0 0 0 65535
    ∷ row 4 signing (trace 3 (1 ∷ [])) 0 1 65535 1 1 0 65535
    ∷ row 4 signing (trace 3 (1 ∷ 2 ∷ [])) 11 2 65535 1 0 0 65535
    -- goal numbers run on; a step that is blocked comes first
    ∷ row 4 signing (trace 0 (1 ∷ [])) 0 1 65535 1 1 0 65535
    ∷ row 4 signing (trace 4 []) 9 0 65535 0 0 0 65535
    ∷ row 4 signing (trace 1 (2 ∷ [])) 10 0 1 0 0 1 65535
    -- 32 deep and 33; a fact of F or more comes before FORMULA
    ∷ row 4 (formula_only 1 (negated 31)) (trace 0 []) 11 0 65535 0 0 0 65535
    ∷ row 4 (formula_only 1 (negated 32)) (trace 0 []) 17 0 65535 0 0 0 65535
    ∷ row 4 (formula_only 0 (negated 32)) (trace 0 []) 6 0 65535 0 0 0 65535
    ∷ []

-- the claim: with enough room, the verdict on every case's files shows the line expected
abbrev pub AllHold : Type 0
AllHold = (c : Case) → c ∈ cases → (l : Lent) → no_space_lem l ≡ false
    → shown (verdict (written_model c.version c.model) (written_trace c.trace) l) ≡ c.expected
