pub mod IllegalEntries
pub mod PlannedSteps
