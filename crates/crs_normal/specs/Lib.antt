pub mod AxisAlone
pub mod CanonicalForm
pub mod Closed
pub mod Normal
pub mod PartSpellings
pub mod inner
