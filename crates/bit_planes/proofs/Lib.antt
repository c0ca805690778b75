pub mod LaneLemmas
pub mod WordLemmas
mod WindowLemmas
pub mod SpreadLemmas
