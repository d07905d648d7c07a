pub mod ReportsRead
