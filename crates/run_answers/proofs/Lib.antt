pub mod SourceLemmas
pub mod EndedLemmas
