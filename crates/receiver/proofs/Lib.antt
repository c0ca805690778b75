pub mod TextLemmas
pub mod HeldLemmas
pub mod OutputLemmas
pub mod AnswerLemmas
pub mod PartLemmas
pub mod ReadLemmas
pub mod RunLemmas
pub mod TableLemmas
pub mod RefusalLemmas
pub mod QueueLemmas
pub mod SessionLemmas
pub mod ShareLemmas
pub mod TellingLemmas
pub mod EntryAnswers
pub mod OpeningLemmas
mod PrintedLemmas
pub mod RunRows
