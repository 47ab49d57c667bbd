pub mod Holding
pub mod Serving
pub mod Showing
