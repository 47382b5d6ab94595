pub mod Appended
pub mod Canonical
pub mod ContentText
pub mod MainTheorem
pub mod Named
pub mod inner
