pub mod Shapes
pub mod inside
