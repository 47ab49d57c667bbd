pub mod Hitting
pub use Rattle.boxcar.specs.Table
pub use Rattle.lock_rules.specs.Cut
