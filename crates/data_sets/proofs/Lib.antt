pub mod AlmanacReports
pub mod AlmanacsApart
pub mod FirstAlmanacs
pub mod LastAlmanacs
pub mod LastOfKind
pub mod PageReports
pub mod Parts
pub mod SetsOfAlmanacs
