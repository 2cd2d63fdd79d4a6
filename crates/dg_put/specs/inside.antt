pub mod Putting
pub mod Weights
pub mod Firsts
pub mod Chains
pub mod Marks
