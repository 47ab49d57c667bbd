pub mod Walk
pub mod FirstBreak
