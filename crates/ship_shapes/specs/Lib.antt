pub mod Lanes
pub mod Jams
pub mod Firsts
