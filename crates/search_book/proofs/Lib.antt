pub mod ShareLemmas
pub mod ApplyLemmas
pub mod GoingLemmas
pub mod LearningLemmas
pub mod AskedLemmas
