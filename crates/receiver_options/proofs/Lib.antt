pub mod OptionLemmas
pub mod CommandLineLemmas
pub mod FileLemmas
pub mod AskedRows
pub mod ShareLemmas
