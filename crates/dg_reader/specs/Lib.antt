pub mod Tokens
pub mod Grammar
pub mod TokenView
pub mod Profile
pub mod Heads
pub mod Read
pub mod Declarations
pub mod inside
