pub mod Branches
pub mod Last
