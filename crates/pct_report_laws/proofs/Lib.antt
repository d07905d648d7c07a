pub mod EventLineReads
pub mod OtherLineReads
pub mod ReportReads
