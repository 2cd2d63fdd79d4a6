pub mod Refusals
pub mod Kept
pub mod Built
pub mod Marks
pub mod inside
