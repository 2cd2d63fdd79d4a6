pub mod Examples
pub mod ReachedLemmas
pub mod RowLemmas
pub mod AnswerLemmas
pub mod CarryLemmas
pub mod LeftLemmas
