pub mod Verdict
pub mod Passing
pub mod Promises
pub mod Cases
