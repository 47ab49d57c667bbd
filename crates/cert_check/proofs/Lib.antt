pub mod HitLemmas
pub mod MissingLemmas
pub mod ReadLemmas
pub mod LowLemmas
pub mod FirstFailure
pub mod AnswerLemmas
pub mod SomeFailure
