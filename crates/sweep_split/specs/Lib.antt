pub mod Split
pub mod Soonest
