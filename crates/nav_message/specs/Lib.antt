pub mod News
pub mod Standing
