pub mod Gaps
pub mod Spacer
