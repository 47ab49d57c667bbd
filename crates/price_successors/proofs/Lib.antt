pub mod ServeLemmas
pub mod SumLemmas
pub mod SuccessorLemmas
pub mod LateLemmas
pub mod SuccessorListLemmas
pub mod GainlessLemmas
