pub mod Shapes
pub mod Copying
