pub mod Loading
pub mod Names
