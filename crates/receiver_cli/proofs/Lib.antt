pub mod CommandLineLemmas
pub mod ReceivingLemmas
