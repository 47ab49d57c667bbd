pub mod PassageLemmas
pub mod LoadLemmas
pub mod WalkLemmas
pub mod WholeLemmas
pub mod PlacesLemmas
pub mod EnterLemmas
pub mod ProbeLemmas
pub mod ChildLemmas
