pub mod Built
pub mod Rows
pub mod Turns
pub mod Follows
pub mod Taken
pub mod Seen
pub mod Walk
pub mod Digits
pub mod Times
pub mod FromWritten
pub mod ToWritten
pub mod Whole
pub mod Meant
mod RestGiven
