pub mod PairReads
pub mod CrowdReads
pub mod Raises
pub mod Fronts
pub mod Pending
