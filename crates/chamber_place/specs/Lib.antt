pub mod Faults
pub mod OnItsWay
pub mod CaseLaws
pub mod Spotting
pub mod Placing
pub mod Parts
