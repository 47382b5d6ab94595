pub mod checked
pub mod found
pub mod one
pub mod some
pub mod sound
pub mod walk
