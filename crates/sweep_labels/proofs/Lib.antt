pub mod ShipLemmas
pub mod LabelLemmas
pub mod PutLemmas
pub mod ComingLemmas
pub mod GoingLemmas
pub mod ArcLemmas
pub mod SweepingLemmas
pub mod MadeLemmas
