pub mod Prior
pub mod Resuming
pub mod Completing
