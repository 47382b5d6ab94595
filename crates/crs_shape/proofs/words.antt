pub mod DimensionLemmas
pub mod NearLemmas
pub mod WordLemmas
