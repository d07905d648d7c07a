mod LegalEntries
mod WokenThreads
mod ChangedLists
mod ForkedChildren
mod PlacesAfter
mod ChangedPlaces
mod ForkedPlaces
mod KeptPlaces
mod Picks
mod ReadyProcesses
mod OnlyThreads
mod ReadPlaces
pub mod FollowingLists
pub mod ConfigLimits
