pub mod Layout
pub mod Header
pub mod Story
pub mod Conditions
pub mod Assembled
pub mod Plan
pub mod inside
