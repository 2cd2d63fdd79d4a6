pub mod Laid
pub mod Goals
