pub mod Rules
pub mod Counts
pub mod Visits
pub mod Found
