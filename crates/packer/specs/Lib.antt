pub mod Statuses
pub mod Devices
pub mod Options
pub mod Runs
pub mod Endings
