pub mod Asked
pub mod Headings
pub mod Pictures
pub mod Runs
pub mod Complete
