pub mod Listed
pub mod ProcessSteps
pub mod Readiness
