pub mod ChoiceLemmas
pub mod AppendLemmas
