pub mod EndLemmas
pub mod KeepLemmas
pub mod EnoughLemmas
pub mod WiderLemmas
pub mod LotLemmas
pub mod SolveLemmas
