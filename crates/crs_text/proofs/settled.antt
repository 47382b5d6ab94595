pub mod ExampleLemmas
pub mod FeedingLemmas
pub mod RefusalLemmas
pub mod StayLemmas
