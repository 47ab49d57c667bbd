pub mod Preorder
pub mod Certified
pub mod Writing
