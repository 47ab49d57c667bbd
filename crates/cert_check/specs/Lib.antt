pub mod Splitting
pub mod Reading
pub mod Hitting
pub mod Cuts
pub mod Swept
pub mod Proven
pub mod FirstFailure
