-- What the test of conditions and the change of a state leave, and what an unmet condition says in a verdict.
pub mod Stepping
pub mod Conditions
