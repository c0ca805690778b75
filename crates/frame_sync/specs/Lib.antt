pub mod Words
pub mod Bits
pub mod Search
pub mod Incoming
