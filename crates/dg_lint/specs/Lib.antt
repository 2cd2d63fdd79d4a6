pub mod Uses
pub mod Slips
pub mod Lines
pub mod Call
pub mod inside
