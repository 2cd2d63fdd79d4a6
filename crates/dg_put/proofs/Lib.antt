pub mod BuiltLemmas
pub mod MarkLemmas
pub mod ChainLemmas
pub mod PlaceLemmas
pub mod StepLemmas
pub mod WeightLemmas
pub mod Dropped
