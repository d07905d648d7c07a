pub mod OfferedChoices
pub mod TransitionCases
pub mod CaseOfTransition
pub mod PlacedStatements
pub mod EnabledChoices
