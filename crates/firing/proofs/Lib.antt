-- Laws on the rules that fire: their numbers, what a record tells of its rule, and what is promised.
pub mod Numbers
pub mod Records
pub mod Answers
pub mod Theorems
