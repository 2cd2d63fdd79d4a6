pub mod Lying
pub mod Finding
pub mod Sites
pub mod Standing
pub mod Suiting
pub mod Siting
