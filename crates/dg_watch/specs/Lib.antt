pub mod Told
pub mod Watching
pub mod Watched
pub mod Plainly
pub mod Seen
pub mod Rows
