pub mod Terms
pub mod Goals
pub mod Rows
pub mod Preds
pub mod Starts
pub mod Whole
