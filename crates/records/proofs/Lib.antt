-- What the proofs here cite: laws on numbers in bytes, on sections and places, on lists, judging and a formula's codes.
-- `Laws` is for the crates above.
pub mod Words
pub mod Sections
pub mod Lists
pub mod Judging
pub mod Places
pub mod Codes
pub mod Laws
