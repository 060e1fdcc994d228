-- What closing by the index promises, and what its parts do.
pub mod Working
pub mod Arrays
