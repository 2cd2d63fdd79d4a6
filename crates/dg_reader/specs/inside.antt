pub mod Machine
pub mod Frames
pub mod Keywords
pub mod Items
pub mod Distinct
pub mod Sizes
