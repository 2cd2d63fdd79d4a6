pub mod Waiting
pub mod Making
pub mod View
pub mod Fewer
