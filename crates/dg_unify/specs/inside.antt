pub mod Ends
pub mod Seen
pub mod Known
pub mod Turns
pub mod Engines
