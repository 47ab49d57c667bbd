pub mod Grounds
pub mod ProvedCuts
pub mod ListedPrices
pub mod Laws
