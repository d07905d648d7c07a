mod ForkingThreads
pub mod ReachedStates
mod WokenThreads
mod OpenChoices
mod EngineRuns
mod EngineChoices
pub mod EngineLaws
pub mod ChosenEntries
