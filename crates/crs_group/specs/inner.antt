pub mod Entries
pub mod GroupReading
pub mod Known
pub mod Putting
