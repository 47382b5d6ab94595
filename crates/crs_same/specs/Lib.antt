pub mod Definition
pub mod Parts
pub mod Paths
pub mod SameCrs
pub mod SameIdents
pub mod SameParts
pub mod Sameness
pub mod inner
