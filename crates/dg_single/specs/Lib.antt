pub mod Plain
pub mod Singles
pub mod inside
