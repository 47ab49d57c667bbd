pub mod OrderLemmas
pub mod StepLemmas
pub mod JoinLemmas
pub mod ChildSteps
pub mod LawLemmas
pub mod RowLemmas
pub mod SameLemmas
