pub mod Successors
pub mod Dominance
pub mod Enough
pub mod LateLists
pub mod SuccessorLists
pub mod Counted
