pub mod AnswerLemmas
pub mod OneAnswerLemmas
pub mod OnePositionLemmas
pub mod PositionLemmas
pub mod WrittenLemmas
