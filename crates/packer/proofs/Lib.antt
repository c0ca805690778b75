pub mod DeviceLemmas
pub mod RunLemmas
pub mod GatherLemmas
pub mod NumberLemmas
pub mod TextLemmas
pub mod AskedLemmas
pub mod OptionRows
