pub mod Named
pub mod Among
pub mod Counts
pub mod Scopes
pub mod State
