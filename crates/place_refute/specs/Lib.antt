pub mod Drawn
pub mod Reading
pub mod SpotReads
pub mod Walking
