pub mod Counting
pub mod Marked
pub mod Stories
pub mod Left
pub mod World
pub mod Keeping
