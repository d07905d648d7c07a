pub mod ReportFindings
pub mod FindingsTexts
