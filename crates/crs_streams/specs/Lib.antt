pub mod Escaped
pub mod Filled
pub mod Json
pub mod Lines
pub mod Streams
pub mod inner
