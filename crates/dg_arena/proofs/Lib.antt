pub mod Rooms
pub mod Making
pub mod Fencing
pub mod Clearing
pub mod Joining
pub mod Settling
