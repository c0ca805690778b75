pub mod Changes
pub mod Standing
pub mod News
