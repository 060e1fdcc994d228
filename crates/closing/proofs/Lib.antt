-- The laws of closing. `Laws`, `Alone`, `Refused` and `Crossings` are for whoever relies on its promise; the others are
-- for the proofs here.
pub mod Laws
pub mod Clauses
pub mod Bodies
pub mod Starting
pub mod Sweeps
pub mod Ways
pub mod Rounds
pub mod Alone
pub mod Indexing
pub mod Refused
pub mod Crossings
