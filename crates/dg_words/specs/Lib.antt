pub mod Cutting
pub mod Classes
pub mod Chars
pub mod Lines
pub mod Letters
