pub mod FormLemmas
pub mod TimeLemmas
pub mod TickLemmas
pub mod PassageLemmas
pub mod LineLemmas
pub mod BerthLemmas
