pub mod Agreement
pub mod Prelude
pub mod SamenessLaws
pub mod Steps
pub mod Walked
