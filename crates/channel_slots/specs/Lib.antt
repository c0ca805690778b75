pub mod BankStates
pub mod Banks
pub mod NewsEvents
pub mod Orders
pub mod Slots
pub mod Stages
pub mod Timelines
