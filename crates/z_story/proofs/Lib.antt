pub mod Images
pub mod Addresses
pub mod Unbroken
pub mod Playing
pub mod Worked
