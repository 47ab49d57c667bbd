pub mod OnWay
pub mod Heights
pub mod SpotCase
pub mod Faults
pub mod Rules
pub mod Lawful
pub mod ShipSpots
pub mod Placing
