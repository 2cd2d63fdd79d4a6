pub mod Sizes
pub mod Once
pub mod Laws
pub mod inside
