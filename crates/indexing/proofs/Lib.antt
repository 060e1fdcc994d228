-- `Laws` is for the crates above; the others are for the proofs here.
pub mod Totals
pub mod Counting
pub mod Bodies
pub mod Entries
pub mod Clauses
pub mod Walks
pub mod Sorting
pub mod Built
pub mod Laws
