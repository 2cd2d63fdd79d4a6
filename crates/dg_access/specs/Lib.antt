pub mod Loops
pub mod Answer
pub mod Comes
pub mod Left
pub mod inside
