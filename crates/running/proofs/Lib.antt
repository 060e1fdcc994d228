-- Laws on the end of a run (`Ends`), its verdict (`Verdicts`) and its bytes at fault (`Parts`).
pub mod Ends
pub mod Verdicts
pub mod Parts
