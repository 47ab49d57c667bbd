pub mod LookupLemmas
pub mod KnownLemmas
pub mod BerthLemmas
pub mod DecisionLemmas
pub mod OptionLemmas
