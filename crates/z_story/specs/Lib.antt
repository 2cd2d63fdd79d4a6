pub mod Parts
pub mod Does
