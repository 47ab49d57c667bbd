pub mod Settling
pub mod Known
pub mod Fates
pub mod Last
pub mod Lines
pub mod Moorings
