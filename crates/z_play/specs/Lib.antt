pub mod View
pub mod Output
pub mod Played
pub mod Ready
pub mod Laws
pub mod inside
