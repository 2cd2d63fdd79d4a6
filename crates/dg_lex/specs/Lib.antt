pub mod Chars
pub mod Bad
pub mod Tokens
pub mod Spelled
