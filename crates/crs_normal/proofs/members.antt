pub mod AgreeLemmas
pub mod IdentLemmas
pub mod MemberLemmas
pub mod ParameterLemmas
pub mod SetLemmas
