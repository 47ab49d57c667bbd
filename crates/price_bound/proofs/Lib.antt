pub mod KeepLemmas
pub mod SparedLemmas
pub mod TotalLemmas
