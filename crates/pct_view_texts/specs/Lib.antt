pub mod Fields
pub mod Positions
pub mod Trace
pub mod Choices
pub mod ListedLines
pub mod TextBuffers
pub mod NextSteps
pub mod States
