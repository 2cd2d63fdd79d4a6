pub mod Walks
pub mod Depth
pub mod Binds
