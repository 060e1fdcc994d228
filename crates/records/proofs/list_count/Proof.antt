-- `records::list_count` meets its contract.
use borrow.Author.Rules.{rules}
use Rattle.records.specs.Records.{list_count_lem}
use Rattle.records.proofs.list_count.Statement.{statement}
use Rattle.records.proofs.list_count.Tie as tie

enum_told : tie.Need-enum_told-1
enum_told c = search rules

enum-told-2 : tie.Need-enum_told-in-Rule
enum-told-2 c = search rules

enum-told-3 : tie.Need-enum_told-in-Maker
enum-told-3 c = search rules

enum-told-4 : tie.Need-enum_told-in-Goal
enum-told-4 c = search rules

enum-told-5 : tie.Need-enum_told-in-Formula
enum-told-5 c = search rules

returns : tie.Need-returns-in-Clause
unfolding list_count_lem
returns c = search rules

returns-2 : tie.Need-returns-in-Rule
unfolding list_count_lem
returns-2 c = search rules

returns-3 : tie.Need-returns-in-Maker
unfolding list_count_lem
returns-3 c = search rules

returns-4 : tie.Need-returns-in-Goal
unfolding list_count_lem
returns-4 c = search rules

returns-5 : tie.Need-returns-in-Formula
unfolding list_count_lem
returns-5 c = search rules

pub list_count_spec : {M : Type 1} → statement M
list_count_spec =
    tie.close
    (tie.spec
    enum_told
    enum-told-2
    enum-told-3
    enum-told-4
    enum-told-5
    returns
    returns-2
    returns-3
    returns-4
    returns-5)
