pub mod Listing
pub mod Texts
pub mod Reads
pub mod inside
