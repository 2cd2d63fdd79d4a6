pub mod Lacks
pub mod Subjects
pub mod Changing
pub mod Finding
pub mod Lasting
pub mod Resting
