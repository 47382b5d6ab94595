pub mod Examples
pub mod NamesTell
