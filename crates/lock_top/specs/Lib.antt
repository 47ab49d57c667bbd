pub mod Runs
pub mod Asked
pub mod Answers
pub mod Complete
pub mod Clauses
pub mod Laws
