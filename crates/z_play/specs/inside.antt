pub mod Collected
pub mod Top
pub mod Faults
pub mod Effects
pub mod Scene
pub mod Acting
pub mod Advancing
pub mod Recent
