pub mod Lists
pub mod Tables
pub mod Starts
pub mod Worlds
