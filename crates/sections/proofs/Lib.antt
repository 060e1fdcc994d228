-- Laws on a section that fits, on the answer for one, and on what an answer says; all are for the crates above too.
pub mod Fits
pub mod Parts
pub mod Answers
