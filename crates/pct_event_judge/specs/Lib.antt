pub mod Findings
pub mod Allowed
pub mod Monitored
