pub mod KeptLemmas
pub mod SplitLemmas
pub mod SoonestLemmas
pub mod LateLemmas
pub mod SplitRows
