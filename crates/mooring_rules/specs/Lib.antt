pub mod PlacementBreaks
pub mod CargoBreaks
pub mod PlanBreaks
