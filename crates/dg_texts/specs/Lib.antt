pub mod Printing
pub mod Spelling
