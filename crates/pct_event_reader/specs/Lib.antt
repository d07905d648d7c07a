pub mod Values
pub mod Numberings
pub mod EventReports
