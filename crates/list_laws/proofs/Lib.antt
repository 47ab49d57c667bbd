pub mod Lists
pub mod ByRecursion
pub mod Counts
pub mod Variants
pub mod Distinct
