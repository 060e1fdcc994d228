-- A pair's key is the number that its two bytes are.
use Rattle.std.proofs.Common.{rules, ◌∙◌}
use Rattle.std.proofs.lemmas.List.Sorted.{answers_always}
use Rattle.records.specs.Words.{word}
use Rattle.lists.proofs.Halves.{chunks_listed}
use Rattle.lists.proofs.has.Goals as goal

pub returns : goal.returns
returns c =
    let facts = c.binary_search_by_key.ensures in
    let by_key = facts.position word (answers_always _ _ _ (λ f a r g called. search rules)) in
    c.is_ok.ensures.value
    ∙ chunks_listed c.args.numbers.now c.args.n _ _ c.requires c.as_chunks.ensures.front c.as_chunks.ensures.front_len
    facts.bound by_key
