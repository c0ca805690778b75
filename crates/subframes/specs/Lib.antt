pub mod Layouts
pub mod Entries
pub mod PageViews
pub mod Values
