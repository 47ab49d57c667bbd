pub mod Thin
pub mod Widen
pub mod Shift
pub mod Slack
pub mod Rounds
pub mod Reach
pub mod Laws
