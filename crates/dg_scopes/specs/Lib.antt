pub mod Counts
pub mod Few
pub mod Scopes
pub mod State
pub mod Closures
pub mod Held
pub mod inside
