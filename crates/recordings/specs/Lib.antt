pub mod Readings
pub mod Recordings
pub mod Packers
pub mod Choices
pub mod Stretches
