pub mod Reports
pub mod Standing
