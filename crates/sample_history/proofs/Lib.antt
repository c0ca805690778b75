pub mod ShiftLemmas
pub mod RingLemmas
pub mod PlaceLemmas
pub mod HistoryLemmas
