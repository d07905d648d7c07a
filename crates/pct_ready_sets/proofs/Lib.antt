mod UntouchedSlots
pub mod FollowingSets
mod GroupConditions
mod GroupScans
pub mod ReadySlots
mod KnownSlots
mod FreshGroups
mod MovedGroups
mod TouchedSlots
mod UnknownSets
