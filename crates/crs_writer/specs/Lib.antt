pub mod Canonical
pub mod SetText
pub mod inner
