-- The section ends where its length says.
use native.Mathlib.Omega.{arith}
use Rattle.sections.specs.Sections.{section_at}
use Rattle.sections.proofs.Parts.{some_end, end_some, ended-bytes}
use Rattle.files.specs.Files.{entries_of}
use Rattle.files.proofs.held.entries.Goals as goal

pub unwrap-end-requires : goal.unwrap-end-requires
unfolding section_at
unwrap-end-requires c = some_end _ 1 _ c.section_end.ensures c.requires

pub slice_bounds-result-count : goal.slice_bounds-result-count
slice_bounds-result-count c = (end_some _ 1 _ _ c.section_end.ensures c.unwrap-end.ensures).start

pub slice_bounds-result-start : goal.slice_bounds-result-start
slice_bounds-result-start c = let e = end_some _ 1 _ _ c.section_end.ensures c.unwrap-end.ensures in omega (arith, e)

pub slice_bounds-result-end : goal.slice_bounds-result-end
slice_bounds-result-end c = let e = end_some _ 1 _ _ c.section_end.ensures c.unwrap-end.ensures in omega (arith, e)

pub returns : goal.returns
unfolding entries_of section_at
returns c = ended-bytes _ 1 _ (end_some _ 1 _ _ c.section_end.ensures c.unwrap-end.ensures)
