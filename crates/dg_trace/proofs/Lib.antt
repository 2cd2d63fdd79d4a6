pub mod Writing
pub mod Naming
pub mod Entries
pub mod Erasures
