pub mod ProcessSteps
pub mod ShownProcesses
