-- `Looking` is for whoever searches conditions in a loop of its own, `Unique` for readers; `Changing` is for the proofs
-- here.
pub mod Changing
pub mod Looking
pub mod Unique
