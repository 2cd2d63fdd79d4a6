pub mod OverLemmas
pub mod RuleLemmas
