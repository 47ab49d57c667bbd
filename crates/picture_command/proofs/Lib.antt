pub mod AnswerLemmas
pub mod DayLemmas
pub mod CompleteLemmas
