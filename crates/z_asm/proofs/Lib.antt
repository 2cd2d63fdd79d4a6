pub mod Filled
pub mod Placing
pub mod Layouts
pub mod Parts
pub mod Standing
pub mod Spans
