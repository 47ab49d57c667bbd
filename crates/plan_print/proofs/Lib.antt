pub mod TextLemmas
pub mod OrderLemmas
pub mod CellLemmas
pub mod DrawingLemmas
