pub mod FoundEvents
pub mod OneFindings
