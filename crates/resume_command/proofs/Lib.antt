mod PriorLemmas
pub mod ResumeLemmas
pub mod CompleteLemmas
