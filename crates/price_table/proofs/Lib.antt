pub mod ThresholdLemmas
pub mod FrameLemmas
pub mod LineLemmas
pub mod ServingLemmas
pub mod StepLemmas
pub mod SweepLemmas
pub mod WalkLemmas
