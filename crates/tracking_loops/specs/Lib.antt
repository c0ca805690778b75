pub mod NewsIn
pub mod Windows
pub mod Standing
