pub mod Views
pub mod Rule
pub mod Steps
pub mod Seats
pub use Rattle.atomic_table.specs.Seated
