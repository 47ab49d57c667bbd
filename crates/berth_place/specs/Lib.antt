pub mod Faults
pub mod Along
pub mod Known
pub mod Pairs
pub mod Spotting
pub mod Unfinished
pub mod Visits
pub mod Placing
