pub mod Work
pub mod Schedules
