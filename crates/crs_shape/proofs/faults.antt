pub mod ExpectedLemmas
pub mod FaultLemmas
pub mod FitLemmas
pub mod PlaceLemmas
pub mod RefusedLemmas
pub mod ShapedLemmas
