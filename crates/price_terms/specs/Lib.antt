pub mod Claim
pub mod Cuts
