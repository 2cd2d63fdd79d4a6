pub mod Agrees
pub mod Steps
pub mod Selects
pub mod Routines
pub mod Always
pub mod Stands
pub mod Whole
pub mod inside
