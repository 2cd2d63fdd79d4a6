pub mod Held
pub mod Joins
pub mod Room
pub mod Rows
pub mod inside
