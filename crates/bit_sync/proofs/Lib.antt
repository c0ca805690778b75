pub mod CountLemmas
pub mod ChangeLemmas
pub mod SearchLemmas
pub mod BitsLemmas
