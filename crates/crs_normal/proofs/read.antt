pub mod CompoundLemmas
pub mod CrsLemmas
pub mod DatumLemmas
pub mod FrameLemmas
pub mod ViewLemmas
