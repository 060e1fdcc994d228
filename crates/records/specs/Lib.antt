pub mod Words
pub mod Codes
pub mod Refusals
pub mod Records
pub mod Marking
pub mod Above
