pub mod ProcessSteps
pub mod Places
pub mod ListChanges
pub mod MachineSteps
pub mod Candidates
