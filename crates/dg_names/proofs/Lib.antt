pub mod FirstLemmas
pub mod ScopeLemmas
pub mod StateLemmas
pub mod NameLemmas
pub mod SetLemmas
pub mod MemberLemmas
pub mod AmongLemmas
