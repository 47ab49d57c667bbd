pub mod SetLemmas
pub mod JamLemmas
pub mod LaneLemmas
pub mod FirstLemmas
pub mod PairLemmas
