-- What closing promises, and what its parts do.
pub mod Closing
pub mod Sweep
