pub mod Left
pub mod Nodes
mod Matching
mod NewNodes
mod Halving
pub mod Names
pub mod Alike
pub mod Fronts
pub mod SiteNumbers
pub mod Chains
