pub mod Lanes
pub mod Ways
pub mod Awaited
