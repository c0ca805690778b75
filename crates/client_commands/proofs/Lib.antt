pub mod DigitLemmas
pub mod EntryLemmas
pub mod PieceLemmas
pub mod PlanLemmas
pub mod ReadingLemmas
