pub mod ClassSet
pub mod Counts
pub mod KeywordTable
pub mod Prelude
pub mod SoughtKind
pub mod Walk
