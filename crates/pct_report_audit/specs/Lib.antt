pub mod ReportAudits
pub mod AuditTexts
