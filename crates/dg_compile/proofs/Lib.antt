pub mod Never
pub mod SourceLemmas
pub mod ComeLemmas
pub mod DeclareLemmas
pub mod FewLemmas
pub mod PreludeLemmas
pub mod NarrowLemmas
pub mod GivenLemmas
