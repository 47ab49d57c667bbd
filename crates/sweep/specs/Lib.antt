pub mod Bounds
pub mod Going
pub mod Judging
pub mod Ends
pub mod Soonest
pub mod Late
