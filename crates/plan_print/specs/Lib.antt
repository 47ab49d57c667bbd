pub mod Words
pub mod Order
pub mod Drawing
pub mod Report
