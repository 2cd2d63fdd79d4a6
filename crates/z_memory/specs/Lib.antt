pub mod Rights
pub mod Story
