pub mod AxisLemmas
pub mod CompoundLemmas
pub mod CrsLemmas
pub mod FrameLemmas
pub mod KnownWordLemmas
pub mod PartLemmas
pub mod SystemLemmas
