pub mod Scanning
pub mod View
