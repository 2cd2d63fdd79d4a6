pub mod Slots
pub mod Settled
pub mod Spines
