pub mod Keeping
pub mod KeptGroups
pub mod Total
pub mod Asks
pub mod Asked
pub mod Greatest
