pub mod ScheduledRuns
pub mod Streams
pub mod SeedSchedules
