pub mod CutLemmas
pub mod FeedLemmas
pub mod JsonLemmas
pub mod LineLemmas
pub mod SplitLemmas
