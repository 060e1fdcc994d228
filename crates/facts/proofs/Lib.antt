-- What proofs here and in later crates cite: `Byte` on the bits of a byte, `Laws` on sets in bytes.
pub mod Byte
pub mod Laws
