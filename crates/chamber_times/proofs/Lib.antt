pub mod WalkLemmas
pub mod BreakLemmas
