pub mod Fault
pub mod Numbers
pub mod inner
