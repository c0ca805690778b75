pub mod Numbers
pub mod Parts
pub mod Presence
pub mod Written
pub mod PageSteps
