pub mod Plain
pub mod Items
pub mod Left
pub mod Comes
pub mod Rewritten
pub mod State
pub mod Building
