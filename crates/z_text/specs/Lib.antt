pub use Rattle.z_model.specs.Text
pub use Rattle.z_model.specs.Zscii
pub mod Walk
pub mod Encode
pub mod Codes
pub mod Faults
