pub mod CrowdLemmas
pub mod AlongLemmas
pub mod WholeLemmas
pub mod PairLemmas
pub mod SpotLemmas
pub mod VisitLemmas
pub mod OptionLemmas
pub mod OrderingLemmas
