pub mod Comparison
pub mod Files
pub mod Told
pub mod Turns
pub mod Wanting
