pub mod CommandView
pub mod Building
pub mod Calls
