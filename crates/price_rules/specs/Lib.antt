pub mod Prices
pub mod Triples
