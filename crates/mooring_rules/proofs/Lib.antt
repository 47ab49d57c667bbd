pub mod PlacementLemmas
pub mod ServiceLemmas
pub mod PlanLemmas
