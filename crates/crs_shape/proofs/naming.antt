pub mod ItemLemmas
pub mod KeywordLemmas
pub mod KeywordTableLemmas
pub mod ListLemmas
pub mod SoughtLemmas
