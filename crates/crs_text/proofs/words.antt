pub mod KeywordLemmas
pub mod WordLemmas
