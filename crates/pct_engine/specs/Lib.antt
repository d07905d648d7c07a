pub mod Traces
pub mod EngineStates
pub mod PlannedRuns
