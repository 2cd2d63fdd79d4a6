pub mod Adding
pub mod View
pub mod Left
pub mod Settled
