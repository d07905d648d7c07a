pub mod LawfulReports
