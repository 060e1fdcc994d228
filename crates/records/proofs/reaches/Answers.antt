-- The chain goes over the numbers that the bytes are.
use Prim.Native.Nat.{ℕ}
use mathlib.Core.Path.{refl}
use mathlib.Core.Bool.{Bool, ◌&&◌}
use lib.Dec.{leb, ltb}
use borrow.Author.Tests.{tests}
use Rattle.std.proofs.Common.{rules}
use Rattle.std.proofs.lemmas.Iterator.Consumers.{YieldsList-from_first}
use Rattle.std.proofs.lemmas.Iterator.Search.{any_from_yields_List}
use Rattle.records.specs.Words.{words}
use Rattle.records.proofs.reaches.Goals as goal

pub returns : goal.returns
returns c =
    let list = c.args.list.now in
    let reached : ℕ → Bool = λ x. leb c.args.limit x && ltb x c.args.end in
    any_from_yields_List reached c.any.new.self _ c.any.result c.any.ensures.ran
    (YieldsList-from_first (λ x. x) (λ s. words s.0.now) (words list) refl) (λ x b q k. search (rules, tests))
