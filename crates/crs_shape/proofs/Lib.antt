pub mod faults
pub mod naming
pub mod walks
pub mod words
