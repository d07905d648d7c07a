mod SameTests
pub mod PairKeys
pub mod StackFacts
mod KnownIds
mod SlotTold
mod CleanupTold
mod ProcessesTold
mod MoreEvents
mod HoldersTold
mod BrokenLaws
mod GivenUp
pub mod Determined
