pub mod Owning
pub mod Serving
pub mod Ending
