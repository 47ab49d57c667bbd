pub mod Words
pub mod Draft
pub mod Chamber
pub mod Ship
pub mod Closing
pub mod Reading
pub mod Canonical
pub mod Lot
