pub mod Lines
pub mod Written
pub mod Held
pub mod Read
pub mod Forms
pub mod Numbers
pub mod Turned
