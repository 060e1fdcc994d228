-- `Laws` and `Clauses` are for the crates above; `Cuts` is for the proofs here.
pub mod Laws
pub mod Cuts
pub mod Rows
pub mod Sorted
mod Halves
pub mod Clauses
