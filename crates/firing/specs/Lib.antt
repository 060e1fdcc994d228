-- What is asked and answered of the rules that can fire.
pub mod Firing
