pub mod Planned
pub mod Judging
pub mod Playing
