pub mod AnswerLemmas
pub mod CrsLemmas
pub mod DecisionLemmas
pub mod FormedLemmas
pub mod LeastLemmas
pub mod ValueLemmas
