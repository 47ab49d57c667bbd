pub mod Names
pub mod Given
pub mod Written
pub mod Numbers
pub mod Meaning
pub mod WordByWord
pub mod Parser
pub mod Stands
