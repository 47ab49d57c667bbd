pub use Rattle.diff_rules.specs.Differences
pub mod PathTree
pub mod Rounds
pub mod Walks
pub mod Solving
