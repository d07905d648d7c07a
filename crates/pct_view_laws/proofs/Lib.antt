pub mod ListedSeen
pub mod StartSeen
pub mod ProcessesSeen
pub mod TracedRuns
pub mod ContainedItems
pub mod ListedThreads
pub mod LegalListed
pub mod BlockedWaits
