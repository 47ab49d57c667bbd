pub mod Asked
pub mod Berths
pub mod Lookups
pub mod Reach
