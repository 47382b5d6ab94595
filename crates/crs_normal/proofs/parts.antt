pub mod AxisAloneLemmas
pub mod PartFrameLemmas
pub mod PartKindLemmas
pub mod PartLemmas
pub mod PartUnitLemmas
