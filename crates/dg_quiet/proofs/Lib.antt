pub mod AsksLemmas
pub mod SpreadLemmas
pub mod SortLemmas
pub mod Still
pub mod QuietGoals
pub mod Senses
pub mod Putting
pub mod QuietSearches
