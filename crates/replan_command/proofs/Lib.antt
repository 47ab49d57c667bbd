pub mod RestLemmas
pub mod KeepingLemmas
pub mod AnswerLemmas
pub mod EndsLemmas
