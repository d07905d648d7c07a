pub mod ReadReports
pub mod OneAudit
