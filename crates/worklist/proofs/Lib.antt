-- `Laws` is for the crates above; the others are for the proofs here.
pub mod Clauses
pub mod Entries
pub mod Seeing
pub mod Turns
pub mod Starting
pub mod Laws
