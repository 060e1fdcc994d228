-- What is promised of asking for one fact.
pub mod Holding
