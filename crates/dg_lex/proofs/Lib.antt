pub mod Utf8
pub mod SoFar
pub mod One
pub mod TextLemmas
pub mod StretchLemmas
pub mod LexedLemmas
