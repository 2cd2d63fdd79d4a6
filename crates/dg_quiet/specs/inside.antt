pub mod Left
pub mod Spread
pub mod Unchanged
