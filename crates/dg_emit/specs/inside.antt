pub mod Left
pub mod Acts
pub mod Parts
pub mod Places
