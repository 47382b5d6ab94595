pub mod ClosedLemmas
pub mod ItemLemmas
pub mod RootLemmas
pub mod SegmentLemmas
pub mod WholeLemmas
pub mod WordFormLemmas
pub mod WrittenFormLemmas
