-- The laws of the kept bits. `Laws` is for whoever takes a formula from state to state; the others are for the proofs
-- here.
pub mod Bits
pub mod Trees
pub mod Laws
