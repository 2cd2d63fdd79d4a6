pub mod Telling
pub mod Plain
pub mod Printed
pub mod Seen
pub mod Events
