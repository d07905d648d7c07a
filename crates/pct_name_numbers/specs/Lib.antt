pub mod Numbering
pub mod EventReading
