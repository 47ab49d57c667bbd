pub mod GainLemmas
pub mod ArrivalLemmas
pub mod GroupLemmas
pub mod ListLemmas
pub mod BeyondLemmas
