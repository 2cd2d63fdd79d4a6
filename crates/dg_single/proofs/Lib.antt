pub mod PlainLemmas
pub mod SetLemmas
pub mod Shapes
pub mod Cold
pub mod Scope
pub mod Ahead
pub mod Once
pub mod OneAnswer
