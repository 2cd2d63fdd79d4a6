pub mod Outcome
pub mod Starts
pub mod Lowered
pub mod inside
