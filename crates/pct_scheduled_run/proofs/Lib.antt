pub mod Words
pub mod WholeRuns
pub mod ContinuedRuns
pub mod OneSchedule
