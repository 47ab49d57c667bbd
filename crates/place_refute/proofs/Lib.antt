pub mod DrawnLemmas
pub mod SpotLemmas
pub mod WalkLemmas
pub mod LeafLemmas
pub mod ReadLemmas
