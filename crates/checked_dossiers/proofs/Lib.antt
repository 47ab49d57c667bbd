pub mod RefusalLemmas
pub mod FitLemmas
pub mod OneLemmas
pub mod ExactLemmas
