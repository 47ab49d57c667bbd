pub mod AnswerLemmas
pub mod BeatLemmas
pub mod CompleteLemmas
