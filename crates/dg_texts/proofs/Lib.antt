pub mod PrintLemmas
pub mod NameLemmas
pub mod Texts
pub mod SpellLemmas
pub mod WriteLemmas
pub mod TypedLetters
