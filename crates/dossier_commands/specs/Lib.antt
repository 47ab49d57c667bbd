pub mod DossierTexts
pub mod Checking
pub mod Lowering
pub mod Completing
