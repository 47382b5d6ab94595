pub mod JudgedLemmas
pub mod LayoutLemmas
pub mod LeftLemmas
pub mod RestLemmas
pub mod RootLemmas
pub mod WholeNumberLemmas
