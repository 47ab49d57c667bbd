pub mod ListLemmas
pub mod CountLemmas
pub mod TurnLemmas
pub mod VisitLemmas
pub mod FoundLemmas
pub mod TreeLemmas
pub mod ExactLemmas
