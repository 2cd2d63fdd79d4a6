pub mod Terms
pub mod Passing
pub mod Throwing
pub mod inside
