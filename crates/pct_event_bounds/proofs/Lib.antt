pub mod ScriptNames
pub mod NamedItems
pub mod NamedByRuns
pub mod FittingNumbers
pub mod FittingTransitions
pub mod FittingSteps
pub mod FittingStates
pub mod FittingRuns
