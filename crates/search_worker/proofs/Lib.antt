pub mod OwnLemmas
pub mod FateLemmas
pub mod ChildLemmas
pub mod EndLemmas
