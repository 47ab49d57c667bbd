pub mod Tried
pub mod CutHits
