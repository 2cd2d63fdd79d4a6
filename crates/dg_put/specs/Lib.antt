pub mod Put
pub mod inside
