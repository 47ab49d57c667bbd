pub mod AskedLemmas
pub mod AnswerLemmas
pub mod ClauseLemmas
pub mod CheckLemmas
pub mod CompleteLemmas
pub mod LawLemmas
