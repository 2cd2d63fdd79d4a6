pub mod WrittenLemmas
pub mod CausesLemmas
pub mod NodeLemmas
mod HeadLemmas
pub mod Places
pub mod UnitLemmas
pub mod Views
pub mod MentionLemmas
pub mod PassingLemmas
mod WalkLemmas
pub mod LineLemmas
pub mod Meant
