pub mod rows
pub mod settled
pub mod texts
pub mod tokens
pub mod words
