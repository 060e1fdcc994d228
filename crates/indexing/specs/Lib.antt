-- What the index is, and what the parts of building it do.
pub mod Indexing
pub mod Placing
