pub mod Programs
pub mod Endings
