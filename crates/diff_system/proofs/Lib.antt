pub mod TreeLemmas
pub mod RaiseLemmas
pub mod CycleLemmas
pub mod RoundLemmas
pub mod BeginLemmas
