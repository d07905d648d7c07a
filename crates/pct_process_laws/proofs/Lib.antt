pub mod processes
pub mod ForksOfRun
