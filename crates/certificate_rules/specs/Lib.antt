pub mod Certificates
pub mod Low
pub mod WellFormed
pub mod Failures
