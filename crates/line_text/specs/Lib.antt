pub mod Lines
pub mod Texts
pub mod Parts
pub mod Left
pub mod Filled
pub mod Steps
pub mod Numbers
pub mod Printed
