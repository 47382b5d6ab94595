pub mod ExampleLemmas
pub mod NormalVerdict
pub mod SingleVerdict
pub mod TextItem
pub mod Verdicts
