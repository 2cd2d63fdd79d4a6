pub mod Traced
pub mod inside
