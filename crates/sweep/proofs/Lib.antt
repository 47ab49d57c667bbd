pub mod GrownLemmas
pub mod BoundLemmas
pub mod GoingLemmas
pub mod EndLemmas
pub mod JudgeLemmas
pub mod SoonestLemmas
pub mod LateLemmas
