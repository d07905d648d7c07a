pub mod Views
pub mod TurnRule
pub mod Passes
pub mod TurnSteps
pub mod Hosts
