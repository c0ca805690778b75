pub mod Answers
pub mod Packings
pub mod Receivers
