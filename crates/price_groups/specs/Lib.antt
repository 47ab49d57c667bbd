pub mod Growing
pub mod GrownLists
pub mod Masks
pub mod Sparing
pub mod Sums
pub mod Worth
pub mod Asks
pub mod Asked
