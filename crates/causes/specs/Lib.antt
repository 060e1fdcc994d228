pub mod Written
pub mod Causes
