pub mod Options
pub mod Searching
pub mod Keeping
pub mod Solving
pub mod Lots
