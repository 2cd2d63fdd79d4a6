pub mod UseLemmas
pub mod LineLemmas
pub mod CallLemmas
