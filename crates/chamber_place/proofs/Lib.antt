pub mod EdgeLemmas
pub mod WayLemmas
pub mod EnterLemmas
pub mod PlaceLemmas
pub mod PartLemmas
