pub mod Node
pub mod Steps
pub mod Split
pub mod Row
pub mod RowBack
