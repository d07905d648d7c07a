pub mod Waits
pub mod Listed
pub mod TracedSteps
pub mod SeenViews
pub mod ListedProcesses
