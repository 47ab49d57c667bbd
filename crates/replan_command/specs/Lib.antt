pub mod Options
pub mod Rests
pub mod Keeping
pub mod Searches
pub mod Replanning
pub mod Ends
