pub mod Gathered
pub mod Formed
pub mod Reading
pub mod Writing
pub mod inside
