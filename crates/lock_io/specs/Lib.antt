pub mod Faults
pub mod Sources
pub mod Sinks
pub mod WholeReads
pub mod WholeWrites
pub mod Standard
