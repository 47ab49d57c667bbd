pub mod LooseLemmas
pub mod ChargeLemmas
pub mod ReachLemmas
pub mod BelowLemmas
pub mod Rows
