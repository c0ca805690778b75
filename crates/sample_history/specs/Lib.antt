pub mod Shifts
pub mod Histories
