pub mod ListsLemmas
pub mod FactsLemmas
pub mod TablesLemmas
pub mod ChangeLemmas
pub mod StartLemmas
pub mod StartedLemmas
pub mod Shapes
