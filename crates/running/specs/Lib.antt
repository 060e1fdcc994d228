-- The verdict of a run, and what the run's own functions are told.
pub mod Outcomes
pub mod Running
