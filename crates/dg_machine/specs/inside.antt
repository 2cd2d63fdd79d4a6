pub mod Joins
pub mod Writing
pub mod Reading
pub mod Running
