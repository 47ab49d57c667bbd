pub mod RefusalTexts
pub mod Refused
pub mod Accepted
pub mod Standing
