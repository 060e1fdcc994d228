-- What later crates cite: `Laws` on tests, lists and the first number, `Size` on counts.
pub mod Laws
pub mod Size
