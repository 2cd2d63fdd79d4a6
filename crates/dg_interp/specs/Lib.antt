pub mod inside
pub mod Runnable
pub mod Asking
