pub mod Room
pub mod SpacedWords
