mod FittingTransitions
pub mod StepsOfProcess
mod HeldSlots
pub mod ReadySlots
mod LegalChoices
mod OnlySlots
