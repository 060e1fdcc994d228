-- What `advance` does, and what the bits that it keeps say of the past.
pub mod Keeping
pub mod Remembering
