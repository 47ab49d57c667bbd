pub mod DossierLemmas
pub mod OpenLemmas
pub mod CompleteLemmas
