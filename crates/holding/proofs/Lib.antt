-- `Theorems` is for readers; `Answers` is for the proofs here.
pub mod Answers
pub mod Theorems
