-- Laws on what is kept for the goal (`Aiming`), on the search over the steps (`Stepwise`), and on what is known at a
-- step of it (`Places`).
pub mod Aiming
pub mod Stepwise
pub mod Places
