pub mod Kept
pub mod PartBreaks
pub mod Rest
pub mod Together
pub mod Last
pub mod Begun
pub mod Lived
pub mod GoingOn
