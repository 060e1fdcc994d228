-- `records::row_of` meets its contract: a fourth list has names, every other one facts.
use Prim.Native.Nat.{◌<◌}
use mathlib.Core.Path.{◌≡◌}
use mathlib.Core.List.{[], ◌∷◌}
use native.Mathlib.Omega.{arith}
use borrow.Author.Rules.{rules}
use Rattle.records.specs.Records.{name_row, rows}
use Rattle.records.proofs.Judging.{alike, fourth}
use Rattle.records.proofs.row_of.Statement.{statement}
use Rattle.records.proofs.row_of.Tie as tie

returns : tie.Need-returns-then-j-ge3
returns c = fourth _ _ _ c.requires c.if-j-ge3.true

enum_told : tie.Need-enum_told-1
enum_told c = search rules

enum-told-2 : tie.Need-enum_told-in-Rule
enum-told-2 c = search rules

enum-told-3 : tie.Need-enum_told-in-Maker
enum-told-3 c = search rules

enum-told-4 : tie.Need-enum_told-in-Goal
enum-told-4 c = search rules

enum-told-5 : tie.Need-enum_told-in-Formula
enum-told-5 c = search rules

returns-2 : tie.Need-returns-then-j-eq0
unfolding rows
returns-2 c = rw (c.in-Clause.is, c.if-j-eq0.true)

returns-3 : tie.Need-returns-else-j-eq0
unfolding rows
returns-3 c =
    let kind = c.in-Clause.is in
    let two : c.args.j < 2 = rw kind at c.requires in
    let one : c.args.j ≡ 1 = omega arith in
    rw (kind, one)

returns-4 : tie.Need-returns-in-Rule
unfolding rows
returns-4 c = rw c.in-Rule.is (alike _ [] 3 c.args.j (omega arith))

returns-5 : tie.Need-returns-in-Maker
unfolding rows
returns-5 c =
    rw c.in-Maker.is (alike _ (name_row ∷ []) 3 c.args.j (omega arith))

returns-6 : tie.Need-returns-in-Goal
unfolding rows
returns-6 c =
    let kind = c.in-Goal.is in
    rw kind (alike _ [] 2 _ (rw kind at c.requires))

-- a formula has no list
returns-7 : tie.Need-returns-in-Formula
unfolding rows
returns-7 c = absurd (omega (arith, rw c.in-Formula.is at c.requires))

pub row_of_spec : {M : Type 1} → statement M
row_of_spec =
    tie.close
    (tie.spec
    returns
    enum_told
    enum-told-2
    enum-told-3
    enum-told-4
    enum-told-5
    returns-2
    returns-3
    returns-4
    returns-5
    returns-6
    returns-7)
