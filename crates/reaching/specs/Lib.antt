-- What a run is lent, and where a pair's steps lead.
pub mod Reaching
