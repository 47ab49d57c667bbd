pub mod BelowLemmas
pub mod LawLemmas
