pub mod Order
pub mod State
pub mod Lawful
pub mod ComingIn
pub mod Playing
pub mod Played
pub mod Rising
pub mod GoingOn
