pub mod DayLemmas
pub mod DrawnLemmas
pub mod ShownLemmas
pub mod RowLemmas
pub mod PageLemmas
