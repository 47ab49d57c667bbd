pub mod ForbiddenLemmas
pub mod GrowLemmas
pub mod IdleLemmas
pub mod MaskLemmas
pub mod RateLemmas
pub mod GrownListLemmas
pub mod WeighLemmas
pub mod ChargingLemmas
