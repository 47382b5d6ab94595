pub mod Cutting
pub mod OneWrite
pub mod Prelude
