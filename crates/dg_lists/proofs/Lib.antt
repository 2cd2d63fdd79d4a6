pub mod Stacks
pub mod ReadLemmas
pub mod WriteLemmas
pub mod MakeLemmas
pub mod SumLemmas
pub mod ListCopies
