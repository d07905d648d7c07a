pub mod ReadyGroups
pub mod ReadyConditions
