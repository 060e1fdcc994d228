-- What later crates cite: `Operators` on the eight operators, `Laws` on formulas and codes, `Truth` on histories.
pub mod Operators
pub mod Laws
pub mod Truth
