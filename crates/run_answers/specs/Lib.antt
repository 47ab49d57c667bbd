pub mod Statuses
pub mod Ended
pub mod Texts
pub mod Written
pub mod Sources
pub mod Refusals
