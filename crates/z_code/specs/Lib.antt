pub use Rattle.z_model.specs.Decode
pub use Rattle.z_model.specs.Spelling
pub mod Decoded
pub mod Targets
pub mod Open
pub mod inside
