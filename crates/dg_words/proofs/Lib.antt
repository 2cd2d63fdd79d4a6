pub mod Encoded
pub mod ClassLemmas
pub mod CutLemmas
pub mod CharLemmas
pub mod LineLemmas
pub mod WordLemmas
pub mod LetterLemmas
pub mod Decoded
